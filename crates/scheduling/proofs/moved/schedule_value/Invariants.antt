-- The yield of the terms so far.
use Rattle.std.proofs.Common.{◌≡◌}
use Rattle.pit_model.specs.Sum.{total}
use Rattle.scheduling.specs.Checked.{part_of_value}
use Rattle.scheduling.proofs.moved.schedule_value.Given as goal

abbrev pub invariant-loop-k : goal.invariant-loop-k
invariant-loop-k l = l.sum ≡ total l.k (part_of_value l.problem l.shares)
