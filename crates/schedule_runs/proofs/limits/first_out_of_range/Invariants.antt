-- The numbers so far are within their ranges.
use Rattle.std.proofs.Common.{ℕ, ◌<◌}
use Rattle.schedule_runs.specs.Limited.{IsInRange, number_at}
use Rattle.schedule_runs.proofs.limits.first_out_of_range.Given as goal

abbrev pub invariant-loop-i : goal.invariant-loop-i
invariant-loop-i l = (j : ℕ) → j < l.i → IsInRange l.sizes l.section j (number_at l.numbers j)
