-- The arcs of the rows so far are counted, and those of the row so far.
use Rattle.std.proofs.Common.{◌≡◌, ℕ, ◌-◌, ◌<◌, ◌≤◌, get_or, length}
use Rattle.csr.specs.Count.{count}
use Rattle.csr.specs.Queue.{leads_to}
use Rattle.csr.proofs.topological_order.count_in_degrees.Given as goal

abbrev pub invariant-loop-u : goal.invariant-loop-u
invariant-loop-u l = record {
  some : 1 ≤ l.u;
  counts : (v : ℕ) → v < length l.left → get_or l.left v 0 ≡ count (get_or l.offsets (l.u - 1) 0) (leads_to l.rows.pairs v);
}

abbrev pub invariant-loop-k : goal.invariant-loop-k
invariant-loop-k l = (v : ℕ) → v < length l.left → get_or l.left v 0 ≡ count l.k (leads_to l.rows.pairs v)
