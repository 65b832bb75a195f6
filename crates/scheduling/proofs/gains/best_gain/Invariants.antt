-- The greatest so far.
use Rattle.scheduling.specs.Gains.{IsGreatest}
use Rattle.scheduling.proofs.gains.best_gain.Given as goal

abbrev pub invariant-loop-destination : goal.invariant-loop-destination
invariant-loop-destination l = IsGreatest l.problem l.weights l.block l.destination l.best
