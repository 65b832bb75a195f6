-- No share so far is more than a whole block.
use Rattle.std.proofs.Common.{ℕ, ◌<◌, ◌≤◌, get_or}
use Rattle.schedule_model.specs.Schedule.{whole_block}
use Rattle.scheduling.proofs.limits.first_share_above.Given as goal

abbrev pub invariant-loop-i : goal.invariant-loop-i
invariant-loop-i l = (i : ℕ) → i < l.i → get_or l.shares i 0 ≤ whole_block
