-- The blocks so far are mined whole, or not at all.
use Rattle.std.proofs.Common.{ℕ, ◌<◌}
use Rattle.schedule_model.specs.Schedule.{whole_block}
use Rattle.schedule_model.specs.WholeBlocks.{IsWholeOrLeft}
use Rattle.scheduling.proofs.whole.are_whole_in.Given as goal

abbrev pub invariant-loop-block : goal.invariant-loop-block
invariant-loop-block l = (b : ℕ) → b < l.block → IsWholeOrLeft whole_block l.problem l.shares b l.period
