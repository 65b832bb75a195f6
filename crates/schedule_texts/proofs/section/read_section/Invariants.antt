-- The numbers so far stand before those of the rows behind them.
use Rattle.std.proofs.Common.{◌≡◌, ◌-◌, ◌*◌, length}
use Rattle.minelib_reader.specs.Text.{rows_at, lines_at}
use Rattle.schedule_texts.specs.Section.{section_of}
use Rattle.schedule_texts.proofs.SectionLemmas.{AreLeft}
use Rattle.schedule_texts.proofs.section.read_section.Given as goal

abbrev pub invariant-loop-place : goal.invariant-loop-place
invariant-loop-place l = record {
  left : AreLeft l.word l.columns l.numbers.items (lines_at l.rows.number l.rows.rest.now) l.place (l.count - l.place) (rows_at l.rows.number l.rows.rest.now)
      (section_of (lines_at l.initial.rows.number l.initial.rows.rest.now) l.word l.columns l.count (rows_at l.initial.rows.number l.initial.rows.rest.now));
  lines : lines_at l.rows.number l.rows.rest.now ≡ lines_at l.initial.rows.number l.initial.rows.rest.now;
  size : length l.numbers.items ≡ l.place * l.columns.width;
}
