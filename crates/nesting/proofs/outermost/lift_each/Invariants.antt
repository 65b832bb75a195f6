-- The shells so far are lifted.
use Rattle.nesting.specs.Outermost.{AreLifted}
use Rattle.nesting.proofs.outermost.lift_each.Given as goal

abbrev pub invariant-loop-i : goal.invariant-loop-i
invariant-loop-i l = AreLifted l.n l.blocks l.shells l.lifted.items l.i
