-- The pairs so far; the open row is not after that of the next.
use Rattle.std.proofs.Common.{◌≡◌, ◌<◌, ◌≤◌, ℕ, length, take}
use Rattle.pit_model.specs.Graph.{first_of}
use Rattle.csr.proofs.shared.SharedRows.from_pairs.Given as goal

abbrev pub invariant-loop-k : goal.invariant-loop-k
invariant-loop-k l = record {
  pairs : l.rows.pairs ≡ take l.k l.pairs;
  row : l.rows.blocks ≤ l.blocks;
  ahead : (j : ℕ) → l.k ≤ j → j < length l.pairs → l.rows.blocks ≤ first_of l.pairs j;
}
