-- What the rows left give in the state so far is what all rows give.
use Rattle.std.proofs.Common.{◌≡◌, length}
use Rattle.minelib_reader.specs.Text.{rows_at, lines_at, count_of_lines}
use Rattle.certificate.specs.CertificateLines.{certificate_from, certificate_of, state}
use Rattle.certificate.proofs.reader.parse_lines.Given as goal

abbrev pub invariant-loop-row : goal.invariant-loop-row
invariant-loop-row l = record {
  read : certificate_from l.graph l.fixed.lists (count_of_lines l.text) (state l.due l.found.pit.items l.found.flow.items) (rows_at l.rows.number l.rows.rest.now) ≡ certificate_of l.graph l.fixed.lists l.text;
  count : lines_at l.rows.number l.rows.rest.now ≡ count_of_lines l.text;
  counted : length l.found.flow.items ≡ length l.graph.pairs;
}

abbrev pub decreases-loop-row : goal.decreases-loop-row
decreases-loop-row l = length (rows_at l.rows.number l.rows.rest.now)
