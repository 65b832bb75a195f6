-- The piece so far is what was kept before and what the reader gave since, and its allowance falls with each read.
use Rattle.std.proofs.Common.{◌≡◌, []}
use Rattle.std.specs.Io.KnownBytes.{Keeps}
use Rattle.minelib_reader.proofs.PieceLemmas.{Gathers}
use Rattle.minelib_reader.proofs.pieces.read_piece.Given as goal

abbrev pub invariant-loop-n : goal.invariant-loop-n
invariant-loop-n g l = record {
  gathers : Gathers (g.R.InBytes.progress l.initial.reader) (g.R.InBytes.progress l.reader) l.fn.kept.items l.piece.items;
  kept : l.kept.items ≡ [];
  known : Keeps (g.R.InBytes.known_text l.initial.reader) (g.R.InBytes.known_text l.reader);
}

abbrev pub decreases-loop-n : goal.decreases-loop-n
decreases-loop-n g l = (g.R.InBytes.progress l.reader).allowance
