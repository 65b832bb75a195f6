-- The use of the terms so far.
use Rattle.std.proofs.Common.{◌≡◌}
use Rattle.pit_model.specs.Sum.{total}
use Rattle.scheduling.specs.Checked.{part_of_usage}
use Rattle.scheduling.proofs.moved.usage.Given as goal

abbrev pub invariant-loop-k : goal.invariant-loop-k
invariant-loop-k l = l.sum ≡ total l.k (part_of_usage l.problem l.shares l.limit l.period)
