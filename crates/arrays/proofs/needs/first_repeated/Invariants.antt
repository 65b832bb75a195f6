-- The rows so far are named.
use Rattle.std.proofs.Common.{◌≡◌, get_or, length}
use Rattle.csr.specs.View.{pairs_in}
use Rattle.arrays.specs.Named.{AreNamed}
use Rattle.arrays.proofs.needs.first_repeated.Given as goal

abbrev pub invariant-loop-block : goal.invariant-loop-block
invariant-loop-block l = record {
  size : length l.named.items ≡ l.blocks;
  named : AreNamed (pairs_in l.rows) l.named.items (get_or l.rows.offsets.now l.block 0);
}
