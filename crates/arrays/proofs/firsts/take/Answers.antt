-- The next block of the pit has no number yet, or it keeps its own.
use Rattle.std.proofs.Common.{◌+◌, sym, subst}
use Rattle.arrays.specs.Firsts.{AreTaken}
use Rattle.arrays.proofs.Taking.{passed_over, taken_in}
use Rattle.arrays.proofs.firsts.take.Goals as goal
use Rattle.arrays.proofs.firsts.take.Goals.{then-firsts-block, else-firsts-block}

pub loop-block-preserved : goal.loop-block-preserved
loop-block-preserved c = elim c.if-firsts-block.branch [
  | then-firsts-block w ↦ subst (λ xs. AreTaken c.args.pit.now c.args.number c.args.none (c.loop-block.block-index + 1) c.args.firsts.now xs) (sym w.firsts-is)
      (taken_in c.args.pit.now c.args.number c.args.none c.loop-block.block-index c.args.firsts.now c.loop-block.firsts (c.requires.below c.loop-block.block-index 0 c.loop-block-test.true)
      c.requires.another w.if-firsts-block.true c.loop-block.invariant)
  | else-firsts-block w ↦ subst (λ xs. AreTaken c.args.pit.now c.args.number c.args.none (c.loop-block.block-index + 1) c.args.firsts.now xs) (sym w.firsts-is)
      (passed_over c.args.pit.now c.args.number c.args.none c.loop-block.block-index c.args.firsts.now c.loop-block.firsts w.if-firsts-block.false c.loop-block.invariant)
]
