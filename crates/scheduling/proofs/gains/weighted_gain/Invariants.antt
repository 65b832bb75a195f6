-- The gain of the terms so far.
use Rattle.std.proofs.Common.{◌≡◌}
use Rattle.pit_model.specs.Sum.{total}
use Rattle.scheduling.specs.Weights.{part_of_gain}
use Rattle.scheduling.proofs.gains.weighted_gain.Given as goal

abbrev pub invariant-loop-k : goal.invariant-loop-k
invariant-loop-k l = l.gain ≡ total l.k (part_of_gain l.problem l.weights l.block l.destination)
