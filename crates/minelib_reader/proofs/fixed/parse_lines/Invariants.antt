-- The blocks so far, with those that the rows left give, are what all rows give.
use Rattle.std.proofs.Common.{◌≡◌, length}
use Rattle.minelib_reader.specs.Text.{rows_at}
use Rattle.minelib_reader.specs.Fixed.{fixed_blocks_of, fixed_from, fixed_lists}
use Rattle.minelib_reader.proofs.FixedLineLemmas.{with_lists}
use Rattle.minelib_reader.proofs.fixed.parse_lines.Given as goal

abbrev pub invariant-loop-row : goal.invariant-loop-row
invariant-loop-row l = with_lists (fixed_lists l.forced.items l.barred.items) (fixed_from l.n l.from (rows_at l.rows.number l.rows.rest.now)) ≡ fixed_blocks_of l.n l.text

abbrev pub decreases-loop-row : goal.decreases-loop-row
decreases-loop-row l = length (rows_at l.rows.number l.rows.rest.now)
