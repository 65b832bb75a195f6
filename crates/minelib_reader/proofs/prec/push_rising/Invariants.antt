-- The pairs so far are those of the blocks seen so far, which are all below the least that may follow.
use Rattle.std.proofs.Common.{◌≡◌, length}
use Rattle.minelib_reader.specs.Text.{fields_of}
use Rattle.minelib_reader.proofs.PrecLemmas.{Rises}
use Rattle.minelib_reader.proofs.prec.push_rising.Given as goal

abbrev pub invariant-loop-p : goal.invariant-loop-p
invariant-loop-p l = record {
  rises : Rises l.block.n l.block.id (fields_of l.fn.text) (fields_of l.rest) l.least l.initial.needs.pairs l.needs.pairs;
  row : l.needs.blocks ≡ l.block.id;
}

abbrev pub decreases-loop-p : goal.decreases-loop-p
decreases-loop-p l = length l.rest
