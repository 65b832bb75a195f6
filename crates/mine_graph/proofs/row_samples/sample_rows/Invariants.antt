-- The samples so far.
use Rattle.std.proofs.Common.{◌≡◌, ℕ, ◌*◌, ◌<◌, length, get_or}
use Rattle.pit_model.specs.Graph.{first_of}
use Rattle.mine_graph.proofs.row_samples.sample_rows.Given as goal

abbrev pub invariant-loop-i : goal.invariant-loop-i
invariant-loop-i l = record {
  size : length l.row_samples.items ≡ l.i;
  each : (j : ℕ) → j < l.i → (j * 64 < length l.rows.pairs) × (get_or l.row_samples.items j 0 ≡ first_of l.rows.pairs (j * 64));
}
