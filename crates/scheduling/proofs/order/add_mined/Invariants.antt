-- The blocks so far have what is mined by now, and the others what was mined before.
use Rattle.std.proofs.Common.{◌≡◌, ℕ, ◌+◌, ◌<◌, ◌≤◌, get_or, length}
use Rattle.std.specs.Prelude.{pos}
use Rattle.schedule_model.specs.Schedule.{mined_in_first, whole_block}
use Rattle.scheduling.proofs.order.add_mined.Given as goal

abbrev pub invariant-loop-block : goal.invariant-loop-block
invariant-loop-block l = record {
  count : length l.by_now ≡ l.problem.blocks;
  added : (b : ℕ) → b < l.block → pos (get_or l.by_now b 0) ≡ mined_in_first l.problem l.shares b (l.period + 1);
  most : (b : ℕ) → b < l.block → get_or l.by_now b 0 ≤ whole_block;
  left : (b : ℕ) → l.block ≤ b → get_or l.by_now b 0 ≡ get_or l.fn.by_now b 0;
}
