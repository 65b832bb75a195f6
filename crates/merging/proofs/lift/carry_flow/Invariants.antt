-- The amounts on the pairs so far are written.
use Rattle.merging.specs.Parts.{AreCarried}
use Rattle.merging.proofs.lift.carry_flow.Given as goal

abbrev pub invariant-loop-k : goal.invariant-loop-k
invariant-loop-k l = AreCarried l.whole l.blocks l.part l.amounts l.k l.fn.flow l.flow
