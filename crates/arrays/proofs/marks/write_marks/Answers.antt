-- At the end the blocks of the list are marked, and no others.
use Rattle.std.proofs.Common.{◌≡◌, arith, length, subst}
use Rattle.arrays.proofs.Marking.{AreMarked, marks_of_set}
use Rattle.arrays.proofs.marks.write_marks.Goals as goal

pub returns : goal.returns
returns c set listed =
    let n = length c.args.marks.now in
    let blocks = c.args.blocks.now in
    let marks = c.loop-block.marks in
    let size : length c.loop-mark.marks ≡ n = c.loop-mark.auto.marks in
    let end : c.loop-block.block-index ≡ length blocks = omega (arith, c.loop-block.auto.block-index-end, c.loop-block-test.false) in
    marks_of_set n blocks marks set (subst (λ k. AreMarked k blocks marks (length blocks)) size (subst (λ k. AreMarked (length c.loop-mark.marks) blocks marks k) end c.loop-block.invariant)) listed
