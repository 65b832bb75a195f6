-- The targets of the rows so far rise, and those of the row so far.
use Rattle.std.proofs.Common.{◌≡◌, ◌+◌, ◌<◌, ◌≤◌, ℕ, length}
use Rattle.pit_model.specs.Graph.{first_of, second_of}
use Rattle.csr.proofs.shared.SharedRows.is_sorted.Given as goal

abbrev pub invariant-loop-u : goal.invariant-loop-u
invariant-loop-u l = (k : ℕ) → k + 1 < length l.self.pairs → first_of l.self.pairs k ≡ first_of l.self.pairs (k + 1) → first_of l.self.pairs k < l.u → second_of l.self.pairs k < second_of l.self.pairs (k + 1)

abbrev pub invariant-loop-i : goal.invariant-loop-i
invariant-loop-i l = record {
  some : 1 ≤ l.i;
  row : (j : ℕ) → j + 1 < l.i → second_of l.self.pairs (l.row.start + j) < second_of l.self.pairs (l.row.start + (j + 1));
}
