-- The values so far stand before those of the rows behind them.
use Rattle.std.proofs.Common.{◌≡◌, ◌-◌, length}
use Rattle.minelib_reader.specs.Text.{rows_at, lines_at}
use Rattle.minelib_reader.specs.Upit.{values_from}
use Rattle.minelib_reader.specs.UpitLimits.{AreSmall}
use Rattle.minelib_reader.proofs.ValueLemmas.{AreLeft}
use Rattle.minelib_reader.proofs.upit.read_values.Given as goal

abbrev pub invariant-loop-id : goal.invariant-loop-id
invariant-loop-id l = record {
  left : AreLeft l.values.items (lines_at l.rows.number l.rows.rest.now) l.id (l.n - l.id) (rows_at l.rows.number l.rows.rest.now)
      (values_from (lines_at l.initial.rows.number l.initial.rows.rest.now) 0 l.n (rows_at l.initial.rows.number l.initial.rows.rest.now));
  count : lines_at l.rows.number l.rows.rest.now ≡ lines_at l.initial.rows.number l.initial.rows.rest.now;
  length : length l.values.items ≡ l.id;
  small : AreSmall l.values.items;
}
