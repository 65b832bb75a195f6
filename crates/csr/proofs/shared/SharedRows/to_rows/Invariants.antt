-- The targets of the rows so far, and those of the row so far.
use Rattle.std.proofs.Common.{◌≡◌, ℕ, ◌+◌, ◌<◌, get_or, length}
use Rattle.pit_model.specs.Graph.{first_of, second_of}
use Rattle.csr.proofs.shared.SharedRows.to_rows.Given as goal

abbrev pub invariant-loop-u : goal.invariant-loop-u
invariant-loop-u l = record {
  size : length l.targets.items ≡ length l.self.pairs;
  rows : (k : ℕ) → k < length l.self.pairs → first_of l.self.pairs k < l.u → get_or l.targets.items k 0 ≡ second_of l.self.pairs k;
}

abbrev pub invariant-loop-i : goal.invariant-loop-i
invariant-loop-i l = record {
  size : length l.targets.items ≡ length l.self.pairs;
  rows : (k : ℕ) → k < length l.self.pairs → first_of l.self.pairs k < l.u → get_or l.targets.items k 0 ≡ second_of l.self.pairs k;
  row : (j : ℕ) → j < l.i → get_or l.targets.items (l.row.start + j) 0 ≡ second_of l.self.pairs (l.row.start + j);
}
