-- The numbers so far are those of the blocks before this one.
use Rattle.minelib_reader.proofs.ColumnLemmas.{IsColumnBelow}
use Rattle.minelib_reader.proofs.columns.column.Given as goal

abbrev pub invariant-loop-id : goal.invariant-loop-id
invariant-loop-id l = IsColumnBelow l.table l.k l.id l.values.items
