-- The first blocks have risen.
use Rattle.nesting.specs.Parametric.{HasIncreased}
use Rattle.nesting.proofs.parametric_shells.rise.Given as goal

abbrev pub invariant-loop-block : goal.invariant-loop-block
invariant-loop-block l = HasIncreased l.step.direction l.columns l.marks l.step.to l.block l.initial.mine l.mine
