-- The gains of the blocks so far.
use Rattle.std.proofs.Common.{◌≡◌, ℕ, ◌+◌, ◌<◌, get_or, length}
use Rattle.std.specs.Prelude.{pos}
use Rattle.scheduling.specs.Gains.{IsGreatest}
use Rattle.scheduling.proofs.gains.add_gains.Given as goal

abbrev pub invariant-loop-block : goal.invariant-loop-block
invariant-loop-block l = record {
  count : length l.gains.items ≡ length l.fn.gains.items + l.block;
  kept : (i : ℕ) → i < length l.fn.gains.items → get_or l.gains.items i (pos 0) ≡ get_or l.fn.gains.items i (pos 0);
  added : (b : ℕ) → b < l.block → IsGreatest l.problem l.weights b l.problem.destinations (get_or l.gains.items (length l.fn.gains.items + b) (pos 0));
}
