-- At the end the blocks of the list are marked, and no others.
use Rattle.std.proofs.Common.{◌≡◌, arith, length, subst}
use Rattle.pit_search.proofs.Marking.{IsMarking, marks_members}
use Rattle.nesting.proofs.whole.mark_blocks.Goals as goal

pub returns-clause-marks : goal.returns-clause-marks
returns-clause-marks c set listed u l =
    let n = c.args.blocks in
    let pit = c.args.pit.now in
    let marks = c.loop-block.marks.items in
    let end : c.loop-block.block-index ≡ length pit = omega (arith, c.loop-block.auto.block-index-end, c.loop-block-test.false) in
    marks_members n pit marks set (subst (λ k. IsMarking n pit marks k) end c.loop-block.invariant) listed u l
