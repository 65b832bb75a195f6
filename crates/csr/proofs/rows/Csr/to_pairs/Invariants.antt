-- The pairs so far; the rows before the block's end at the place of the next pair or before it.
use Rattle.std.proofs.Common.{◌≡◌, ℕ, suc, ◌-◌, ◌<◌, ◌≤◌, length, get_or, take}
use Rattle.csr.specs.Rows.{pairs_of}
use Rattle.csr.proofs.rows.Csr.to_pairs.Given as goal

abbrev pub invariant-loop-k : goal.invariant-loop-k
invariant-loop-k l = record {
  pairs : l.pairs.items ≡ take l.k (pairs_of l.self-inside.offsets.items l.self-inside.targets.items);
  row : l.block < length l.self-inside.offsets.items;
  ended : (v : ℕ) → v < l.block → get_or l.self-inside.offsets.items (suc v) 0 ≤ l.k;
}

abbrev pub invariant-loop-block : goal.invariant-loop-block
invariant-loop-block l = record {
  row : l.block < length l.self-inside.offsets.items;
  ended : (v : ℕ) → v < l.block → get_or l.self-inside.offsets.items (suc v) 0 ≤ l.k;
}

abbrev pub decreases-loop-block : goal.decreases-loop-block
decreases-loop-block l = length l.self-inside.offsets.items - l.block
