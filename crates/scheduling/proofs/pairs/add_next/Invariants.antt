-- The pairs of the nodes so far.
use Rattle.std.proofs.Common.{◌≡◌, ℕ, ◌+◌, ◌<◌, length}
use Rattle.scheduling.specs.Pairs.{pair_at}
use Rattle.scheduling.proofs.pairs.add_next.Given as goal

abbrev pub invariant-loop-node : goal.invariant-loop-node
invariant-loop-node l = record {
  count : length l.pairs.items ≡ length l.fn.pairs.items + l.node;
  kept : (i : ℕ) → i < length l.fn.pairs.items → pair_at l.pairs.items i ≡ pair_at l.fn.pairs.items i;
  added : (i : ℕ) → i < l.node → pair_at l.pairs.items (length l.fn.pairs.items + i) ≡ (i, i + l.distance);
}
