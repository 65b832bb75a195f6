-- In the periods so far blocks are mined whole, or not at all.
use Rattle.std.proofs.Common.{ℕ, ◌<◌}
use Rattle.schedule_model.specs.Schedule.{whole_block}
use Rattle.schedule_model.specs.WholeBlocks.{AreWholeIn}
use Rattle.scheduling.proofs.whole.are_blocks_whole.Given as goal

abbrev pub invariant-loop-period : goal.invariant-loop-period
invariant-loop-period l = (t : ℕ) → t < l.period → AreWholeIn whole_block l.problem l.shares t
