-- The text so far is what the reader gave, and its allowance falls with each read.
use Rattle.std.proofs.Common.{◌≡◌, ◌++◌, ℕ, List}
use Rattle.std.specs.Io.KnownBytes.{Keeps}
use Rattle.minelib_reader.proofs.pieces.read_past.Given as goal

abbrev pub invariant-loop : goal.invariant-loop
invariant-loop g l = record {
  bytes : (text : List ℕ) × ((g.R.InBytes.progress l.reader).bytes ≡ (g.R.InBytes.progress l.initial.reader).bytes ++ text);
  failures : (g.R.InBytes.progress l.reader).failures ≡ (g.R.InBytes.progress l.initial.reader).failures;
  known : Keeps (g.R.InBytes.known_text l.initial.reader) (g.R.InBytes.known_text l.reader);
}

abbrev pub decreases-loop : goal.decreases-loop
decreases-loop g l = (g.R.InBytes.progress l.reader).allowance
