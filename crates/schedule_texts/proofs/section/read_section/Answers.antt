-- Each way out of a turn is a check that failed; a whole turn reads one line more.
use Rattle.std.proofs.Common.{◌≡◌, ℕ, ℤ, List, ◌∷◌, [], ◌++◌, ◌-◌, ◌+◌, ◌*◌, ap, subst, sym, ◌∙◌}
use Rattle.std.proofs.Common.{rules, arith, length, length-append}
use Rattle.std.proofs.lemmas.Result.{err_from_is_err_and}
use Rattle.minelib_reader.specs.Text.{row, rows_at, lines_at, fields_of}
use Rattle.minelib_reader.proofs.AnswerLemmas.{fails_map}
use Rattle.schedule_texts.specs.Section.{due_row, section_line, section_of}
use Rattle.schedule_texts.proofs.SectionLemmas.{AreLeft, line_read, no_line_due, no_line, all_read}
use Rattle.schedule_texts.proofs.section.read_section.Goals as goal

pub returns-in_err-row-clause-gives : goal.returns-in_err-row-clause-gives
returns-in_err-row-clause-gives c =
    let p = err_from_is_err_and c.from_residual.result c.from_residual.ensures.1 in
    let s = c.loop-place.rows in
    let word = c.args.word in
    let columns = c.args.columns in
    let whole = section_of (lines_at c.args.rows.now.number c.args.rows.now.rest.now) word columns c.args.count (rows_at c.args.rows.now.number c.args.rows.now.rest.now) in
    let e = c.in_err-row.field-0.0 in
    rw (p.1, p.2) (fails_map e.refusal e _ whole (no_line_due e word columns c.loop-place.numbers.items (lines_at s.number s.rest.now) c.args.count c.loop-place.place (rows_at s.number s.rest.now) whole c.loop-place-test.true c.loop-place.invariant.left) c.in_err-row.ensures.gives)

pub returns-in_err-read_line-clause-gives : goal.returns-in_err-read_line-clause-gives
returns-in_err-read_line-clause-gives c =
    let p = err_from_is_err_and c.from_residual-in_err-read_line.result c.from_residual-in_err-read_line.ensures.1 in
    let s = c.loop-place.rows in
    let word = c.args.word in
    let columns = c.args.columns in
    let whole = section_of (lines_at c.args.rows.now.number c.args.rows.now.rest.now) word columns c.args.count (rows_at c.args.rows.now.number c.args.rows.now.rest.now) in
    let e = c.in_err-read_line.field-0.0 in
    let r = c.in_ok-row.row in
    let next = row r.line (fields_of r.text.now) in
    rw (p.1, p.2) (fails_map e.refusal e (section_line word columns c.loop-place.place next) whole (no_line e word columns c.loop-place.numbers.items (lines_at s.number s.rest.now) c.args.count c.loop-place.place (rows_at s.number s.rest.now) next _ whole c.loop-place-test.true c.in_ok-row.ensures.gives c.loop-place.invariant.left) c.in_err-read_line.ensures.err)

pub loop-place-preserved : goal.loop-place-preserved
loop-place-preserved c =
    let s = c.loop-place.rows in
    let t = c.next_due.new.rows in
    let word = c.args.word in
    let columns = c.args.columns in
    let whole = section_of (lines_at c.args.rows.now.number c.args.rows.now.rest.now) word columns c.args.count (rows_at c.args.rows.now.number c.args.rows.now.rest.now) in
    let r = c.in_ok-row.row in
    let next = row r.line (fields_of r.text.now) in
    let same = c.in_ok-row.ensures.count in
    let read = c.loop-place.numbers.items in
    let new = c.read_line.new.numbers.items in
    let adds = c.in_ok-read_line.ensures.ok in
    let left = c.args.count - (c.loop-place.place + 1) in
    let one = line_read word columns read (lines_at s.number s.rest.now) c.args.count c.loop-place.place (rows_at s.number s.rest.now) next (rows_at t.number t.rest.now) adds.own whole c.loop-place-test.true c.in_ok-row.ensures.gives adds.read c.loop-place.invariant.left in
    let size : length new ≡ c.loop-place.place * columns.width + columns.width = ap length adds.added ∙ length-append read adds.own ∙ ap (λ (k : ℕ). k + length adds.own) c.loop-place.invariant.size ∙ ap (λ (k : ℕ). c.loop-place.place * columns.width + k) adds.wide in
    record {
      left = subst (λ (vs : List ℤ). AreLeft word columns vs (lines_at t.number t.rest.now) (c.loop-place.place + 1) left (rows_at t.number t.rest.now) whole) (sym adds.added)
          (subst (λ (k : ℕ). AreLeft word columns (read ++ adds.own) k (c.loop-place.place + 1) left (rows_at t.number t.rest.now) whole) (sym same) one);
      lines = same ∙ c.loop-place.invariant.lines;
      size = size ∙ sym (one_more c.loop-place.place columns.width);
    }
  where
    one_more : (n w : ℕ) → (n + 1) * w ≡ n * w + w
    one_more n w = omega arith

pub returns-clause-gives : goal.returns-clause-gives
returns-clause-gives c =
    let s = c.loop-place.rows in
    all_read c.args.word c.args.columns c.loop-place.numbers.items (lines_at s.number s.rest.now) c.args.count c.loop-place.place (rows_at s.number s.rest.now) _ c.loop-place-test.false c.loop-place.invariant.left
