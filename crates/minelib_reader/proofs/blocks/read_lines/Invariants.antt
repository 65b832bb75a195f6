-- The blocks so far, with those that the rows left give, are what all rows give.
use Rattle.std.proofs.Common.{◌≡◌, length}
use Rattle.minelib_reader.specs.Text.{rows_at, rows_of}
use Rattle.minelib_reader.specs.Table.{IsWhole}
use Rattle.minelib_reader.specs.Blocks.{blocks_from}
use Rattle.minelib_reader.proofs.BlocksLineLemmas.{with_blocks}
use Rattle.minelib_reader.proofs.blocks.read_lines.Given as goal

abbrev pub invariant-loop-row : goal.invariant-loop-row
invariant-loop-row l = record {
  read : with_blocks l.places.items l.attributes.items (blocks_from l.width (length l.places.items) (rows_at l.rows.number l.rows.rest.now)) ≡ blocks_from l.width 0 (rows_of l.text);
  whole : IsWhole l.width l.places.items l.attributes.items;
}

abbrev pub decreases-loop-row : goal.decreases-loop-row
decreases-loop-row l = length (rows_at l.rows.number l.rows.rest.now)
