-- The pairs so far, with those of what was kept and of whatever is read behind it, are those of the whole text.
use Rattle.std.proofs.Common.{◌≡◌, ◌<◌, ◌≤◌, ◌^◌, length}
use Rattle.std.specs.Io.KnownBytes.{Keeps}
use Rattle.std.specs.List.{All}
use Rattle.pit_model.specs.Size.{most_pairs}
use Rattle.minelib_reader.specs.Marks.{AreRowsSoFar}
use Rattle.minelib_reader.proofs.PrecPieceLemmas.{HasRead}
use Rattle.minelib_reader.proofs.prec.read_pieces.Given as goal

abbrev pub invariant-loop-kept : goal.invariant-loop-kept
invariant-loop-kept g l = record {
  countable : l.before.line < 2 ^ 63;
  read : HasRead l.n (g.R.InBytes.progress l.initial.reader) (g.R.InBytes.progress l.reader) l.before.from l.before.total l.before.line l.kept.items l.needs.pairs;
  known : Keeps (g.R.InBytes.known_text l.initial.reader) (g.R.InBytes.known_text l.reader);
  so_far : AreRowsSoFar l.n l.before.from l.before.total l.needs;
  few : l.before.total ≤ most_pairs;
  sizes : length l.marks.items ≡ l.n;
  marks : All (λ m. m ≤ l.before.from) l.marks.items;
}

abbrev pub decreases-loop-kept : goal.decreases-loop-kept
decreases-loop-kept g l = (g.R.InBytes.progress l.reader).allowance
