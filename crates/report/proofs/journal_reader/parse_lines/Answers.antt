-- Each way through the loop is one step of the reading line by line.
use Rattle.std.proofs.Common.{◌≡◌, [], sym, ap, ◌∙◌}
use Rattle.std.proofs.lemmas.Result.{err_from_is_err_and}
use Rattle.minelib_reader.specs.Text.{row, rows_at, fields_of, count_of_lines}
use Rattle.minelib_reader.proofs.AnswerLemmas.{fails_map}
use Rattle.report.specs.JournalLines.{journal_of, journal_end_at, journal_step_at, journal_state, journal_step, journal_end}
use Rattle.report.proofs.ReadingOn.{go_on, stop, finish}
use Rattle.report.proofs.journal_reader.parse_lines.Goals as goal

pub returns-in_err-due : goal.returns-in_err-due
returns-in_err-due c =
    let p = err_from_is_err_and c.from_residual.result c.from_residual.ensures.1 in
    let e = c.in_err-due.field-0.0 in
    let s = journal_state c.loop-row.due c.loop-row.entries.items in
    let r = row c.in-Some.row.line (fields_of c.in-Some.row.text.now) in
    let g = c.args.graph.now in
    let all = journal_of c.args.graph.now c.args.text.now in
    let t = c.next_row.new.self in
    rw (p.1, p.2) (record {
      exact = fails_map e.refusal e (journal_step_at g c.loop-row.due c.loop-row.entries.items r) all
          (λ h. stop (journal_step g) (journal_end (count_of_lines c.args.text.now)) s (rows_at c.loop-row.rows.number c.loop-row.rows.rest.now) (rows_at t.number t.rest.now) all c.loop-row.invariant.read r e c.in-Some.ensures.row h) c.in_err-due.ensures.err;
    })

pub loop-row-preserved : goal.loop-row-preserved
loop-row-preserved c =
    let s = journal_state c.loop-row.due c.loop-row.entries.items in
    let r = row c.in-Some.row.line (fields_of c.in-Some.row.text.now) in
    let t = c.next_row.new.self in
    record {
      read = go_on (journal_step c.args.graph.now) (journal_end (count_of_lines c.args.text.now)) s (rows_at c.loop-row.rows.number c.loop-row.rows.rest.now) (rows_at t.number t.rest.now) (journal_of c.args.graph.now c.args.text.now) c.loop-row.invariant.read
          r (journal_state c.in_ok-due.due c.take_line.new.entries.items) c.in-Some.ensures.row c.in_ok-due.ensures.ok;
      count = c.next_row.ensures.count ∙ c.loop-row.invariant.count;
    }

pub returns-in_err-budget : goal.returns-in_err-budget
returns-in_err-budget c =
    let p = err_from_is_err_and c.from_residual-in_err-budget.result c.from_residual-in_err-budget.ensures.1 in
    let e = c.in_err-budget.field-0.0 in
    let s = journal_state c.loop-row.due c.loop-row.entries.items in
    let entries = c.loop-row.entries.items in
    let number : c.next_row.new.self.number ≡ count_of_lines c.args.text.now = c.in_default.ensures.end ∙ c.next_row.ensures.count ∙ c.loop-row.invariant.count in
    let ended = finish (journal_step c.args.graph.now) (journal_end (count_of_lines c.args.text.now)) s (rows_at c.loop-row.rows.number c.loop-row.rows.rest.now) [] (journal_of c.args.graph.now c.args.text.now) c.loop-row.invariant.read c.in_default.ensures.row in
    let is = ended ∙ ap (λ k. journal_end_at k c.loop-row.due c.loop-row.entries.items) (sym number) in
    rw (p.1, p.2) (record { exact = fails_map e.refusal e (journal_end_at c.next_row.new.self.number c.loop-row.due entries) (journal_of c.args.graph.now c.args.text.now) (λ h. is ∙ h) (c.in_err-budget.ensures entries) })

pub returns : goal.returns
returns c =
    let s = journal_state c.loop-row.due c.loop-row.entries.items in
    let number : c.next_row.new.self.number ≡ count_of_lines c.args.text.now = c.in_default.ensures.end ∙ c.next_row.ensures.count ∙ c.loop-row.invariant.count in
    let ended = finish (journal_step c.args.graph.now) (journal_end (count_of_lines c.args.text.now)) s (rows_at c.loop-row.rows.number c.loop-row.rows.rest.now) [] (journal_of c.args.graph.now c.args.text.now) c.loop-row.invariant.read c.in_default.ensures.row in
    record { exact = ended ∙ ap (λ k. journal_end_at k c.loop-row.due c.loop-row.entries.items) (sym number) ∙ c.in_ok-budget.ensures c.loop-row.entries.items }
