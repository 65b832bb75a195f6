-- The sections so far are within their ranges.
use Rattle.std.proofs.Common.{ℕ, ◌<◌}
use Rattle.schedule_texts.specs.ProblemText.{lists}
use Rattle.schedule_runs.specs.Limited.{AreInRangeOf, section_at, section_numbers}
use Rattle.schedule_runs.proofs.limits.check_numbers.Given as goal

abbrev pub invariant-loop-k : goal.invariant-loop-k
invariant-loop-k l = (j : ℕ) → j < l.k → AreInRangeOf l.sizes (section_at j)
    (section_numbers (lists l.read.counts l.read.discounts.items l.read.capacities.items l.read.values.items l.read.uses.items l.read.amounts.items) (section_at j))
