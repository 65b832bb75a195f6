-- The counts so far are lawful.
use Rattle.std.proofs.Common.{ℕ, ◌<◌}
use Rattle.schedule_runs.specs.Limited.{HasLawful}
use Rattle.schedule_runs.proofs.limits.check_counts.Given as goal

abbrev pub invariant-loop-i : goal.invariant-loop-i
invariant-loop-i l = (j : ℕ) → j < l.i → HasLawful l.c j
