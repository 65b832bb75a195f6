-- The arcs of the rows so far, and those of the row so far.
use Rattle.std.proofs.Common.{◌≡◌, ◌≤◌, get_or, take}
use Rattle.csr.specs.View.{pairs_in}
use Rattle.csr.proofs.shared.SharedRows.from_view.Given as goal

abbrev pub invariant-loop-u : goal.invariant-loop-u
invariant-loop-u l = record {
  pairs : l.shared.pairs ≡ take (get_or l.rows.offsets.now l.u 0) (pairs_in l.rows);
  row : l.shared.blocks ≤ l.u;
}

abbrev pub invariant-loop-k : goal.invariant-loop-k
invariant-loop-k l = record {
  pairs : l.shared.pairs ≡ take l.k (pairs_in l.rows);
  row : l.shared.blocks ≡ l.u;
}
