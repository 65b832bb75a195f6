-- The pairs so far, with those that the rows left give, are what all rows give; no mark is above the ids so far.
use Rattle.std.proofs.Common.{◌≡◌, ◌≤◌, ◌+◌, ◌++◌, List, length}
use Rattle.std.specs.List.{All}
use Rattle.minelib_reader.specs.Text.{Row, rows_at, lines_at}
use Rattle.pit_model.specs.Size.{most_pairs}
use Rattle.minelib_reader.specs.Marks.{AreRowsSoFar, with_pairs}
use Rattle.minelib_reader.specs.Prec.{pairs_from}
use Rattle.minelib_reader.proofs.prec.read_lines.Given as goal

abbrev pub invariant-loop-row : goal.invariant-loop-row
invariant-loop-row l = record {
  read : (behind : List Row) → with_pairs l.needs.pairs (pairs_from l.n l.after.from l.after.total (rows_at l.rows.number l.rows.rest.now ++ behind))
      ≡ with_pairs l.initial.needs.pairs (pairs_from l.n l.fn.before.from l.fn.before.total (rows_at l.fn.before.line l.text ++ behind));
  counted : lines_at l.rows.number l.rows.rest.now ≡ lines_at l.fn.before.line l.text;
  short : l.rows.number + length l.rows.rest.now ≤ l.fn.before.line + length l.text;
  so_far : AreRowsSoFar l.n l.after.from l.after.total l.needs;
  few : l.after.total ≤ most_pairs;
  sizes : length l.marks.items ≡ l.n;
  marks : All (λ m. m ≤ l.after.from) l.marks.items;
}

abbrev pub decreases-loop-row : goal.decreases-loop-row
decreases-loop-row l = length (rows_at l.rows.number l.rows.rest.now)
