-- The limits so far hold.
use Rattle.std.proofs.Common.{ℕ, ◌<◌}
use Rattle.scheduling.specs.Checked.{IsWithinLimit}
use Rattle.scheduling.proofs.check.check_limits.Given as goal

abbrev pub invariant-loop-limit : goal.invariant-loop-limit
invariant-loop-limit l = (r s : ℕ) → r < l.limit → s < l.problem.periods → IsWithinLimit l.problem l.shares r s
