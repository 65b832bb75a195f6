-- The pairs so far; the open row is that of the last of them.
use Rattle.std.proofs.Common.{◌≡◌, ◌<◌, ◌≤◌, ℕ, length, get_or}
use Rattle.pit_model.specs.Graph.{first_of}
use Rattle.merging.proofs.plan.pairs_at.Given as goal

abbrev pub invariant-loop-i : goal.invariant-loop-i
invariant-loop-i l = record {
  count : length l.needs.pairs ≡ l.i;
  each : (j : ℕ) → j < l.i → get_or l.needs.pairs j (0, 0) ≡ get_or l.graph.pairs (get_or l.arcs j 0) (0, 0);
  row : l.needs.blocks ≤ l.graph.blocks;
  ahead : (j : ℕ) → l.i ≤ j → j < length l.arcs → l.needs.blocks ≤ first_of l.graph.pairs (get_or l.arcs j 0);
}
