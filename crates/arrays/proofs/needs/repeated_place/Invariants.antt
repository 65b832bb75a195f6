-- The pairs of the row so far are named.
use Rattle.std.proofs.Common.{◌≡◌, ◌≤◌, ◌+◌, get_or, length}
use Rattle.csr.specs.View.{pairs_in}
use Rattle.arrays.specs.Named.{AreNamed}
use Rattle.arrays.proofs.needs.repeated_place.Given as goal

abbrev pub invariant-loop-k : goal.invariant-loop-k
invariant-loop-k l = record {
  from : get_or l.rows.offsets.now l.block 0 ≤ l.k;
  to : l.k ≤ get_or l.rows.offsets.now (l.block + 1) 0;
  size : length l.named ≡ length l.fn.named;
  named : AreNamed (pairs_in l.rows) l.named l.k;
}
