-- What the rows left give in the state so far is what all rows give.
use Rattle.std.proofs.Common.{◌≡◌, length}
use Rattle.minelib_reader.specs.Text.{rows_at, lines_at, count_of_lines}
use Rattle.report.specs.LineByLine.{read_from}
use Rattle.report.specs.JournalLines.{journal_of, journal_state, journal_step, journal_end}
use Rattle.report.proofs.journal_reader.parse_lines.Given as goal

abbrev pub invariant-loop-row : goal.invariant-loop-row
invariant-loop-row l = record {
  read : read_from (journal_step l.graph) (journal_end (count_of_lines l.text)) (journal_state l.due l.entries.items) (rows_at l.rows.number l.rows.rest.now) ≡ journal_of l.graph l.text;
  count : lines_at l.rows.number l.rows.rest.now ≡ count_of_lines l.text;
}

abbrev pub decreases-loop-row : goal.decreases-loop-row
decreases-loop-row l = length (rows_at l.rows.number l.rows.rest.now)
