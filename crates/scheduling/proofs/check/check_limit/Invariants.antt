-- The limit holds in the periods so far.
use Rattle.std.proofs.Common.{ℕ, ◌<◌}
use Rattle.scheduling.specs.Checked.{IsWithinLimit}
use Rattle.scheduling.proofs.check.check_limit.Given as goal

abbrev pub invariant-loop-period : goal.invariant-loop-period
invariant-loop-period l = (s : ℕ) → s < l.period → IsWithinLimit l.problem l.shares l.limit s
