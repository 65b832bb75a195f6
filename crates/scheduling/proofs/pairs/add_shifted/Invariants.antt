-- The shifted pairs so far.
use Rattle.std.proofs.Common.{◌≡◌, ℕ, ◌+◌, ◌<◌, length}
use Rattle.pit_model.specs.Graph.{first_of, second_of}
use Rattle.scheduling.specs.Pairs.{pair_at}
use Rattle.scheduling.proofs.pairs.add_shifted.Given as goal

abbrev pub invariant-loop-k : goal.invariant-loop-k
invariant-loop-k l = record {
  count : length l.pairs.items ≡ length l.fn.pairs.items + l.k;
  kept : (i : ℕ) → i < length l.fn.pairs.items → pair_at l.pairs.items i ≡ pair_at l.fn.pairs.items i;
  added : (k : ℕ) → k < l.k → pair_at l.pairs.items (length l.fn.pairs.items + k) ≡ (l.shift + first_of l.base k, l.shift + second_of l.base k);
}
