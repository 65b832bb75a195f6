-- Each way through the loop is one step of the reading line by line.
use Rattle.std.proofs.Common.{◌≡◌, [], sym, ap, ◌∙◌}
use Rattle.std.proofs.lemmas.Result.{err_from_is_err_and}
use Rattle.minelib_reader.specs.Text.{row, rows_at, fields_of, count_of_lines}
use Rattle.minelib_reader.proofs.AnswerLemmas.{fails_map}
use Rattle.certificate.specs.CertificateLines.{certificate_of, end_at, step_at, state, step, end}
use Rattle.report.proofs.ReadingOn.{go_on, stop, finish}
use Rattle.certificate.proofs.reader.parse_lines.Goals as goal

pub returns-in_err-due : goal.returns-in_err-due
returns-in_err-due c =
    let p = err_from_is_err_and c.from_residual-in_err-due.result c.from_residual-in_err-due.ensures.1 in
    let e = c.in_err-due.field-0.0 in
    let s = state c.loop-row.due c.loop-row.found.pit.items c.loop-row.found.flow.items in
    let r = row c.in-Some.row.line (fields_of c.in-Some.row.text.now) in
    let g = c.args.graph.now in
    let all = certificate_of c.args.graph.now c.args.fixed.now.lists c.args.text.now in
    let t = c.next_row.new.self in
    rw (p.1, p.2) (record {
      exact = fails_map e.refusal e (step_at g c.args.fixed.now.lists c.loop-row.due c.loop-row.found.pit.items c.loop-row.found.flow.items r) all
          (λ h. stop (step g c.args.fixed.now.lists) (end (count_of_lines c.args.text.now)) s (rows_at c.loop-row.rows.number c.loop-row.rows.rest.now) (rows_at t.number t.rest.now) all c.loop-row.invariant.read r e c.in-Some.ensures.row h) c.in_err-due.ensures.err;
    })

pub loop-row-preserved : goal.loop-row-preserved
loop-row-preserved c =
    let s = state c.loop-row.due c.loop-row.found.pit.items c.loop-row.found.flow.items in
    let r = row c.in-Some.row.line (fields_of c.in-Some.row.text.now) in
    let t = c.next_row.new.self in
    record {
      read = go_on (step c.args.graph.now c.args.fixed.now.lists) (end (count_of_lines c.args.text.now)) s (rows_at c.loop-row.rows.number c.loop-row.rows.rest.now) (rows_at t.number t.rest.now) (certificate_of c.args.graph.now c.args.fixed.now.lists c.args.text.now) c.loop-row.invariant.read
          r (state c.in_ok-due.due c.take_line.new.found.pit.items c.take_line.new.found.flow.items) c.in-Some.ensures.row c.in_ok-due.ensures.ok;
      count = c.next_row.ensures.count ∙ c.loop-row.invariant.count;
      counted = c.in_ok-due.ensures.counted;
    }

pub returns-in_err-check_end : goal.returns-in_err-check_end
returns-in_err-check_end c =
    let p = err_from_is_err_and c.from_residual-in_err-check_end.result c.from_residual-in_err-check_end.ensures.1 in
    let e = c.in_err-check_end.field-0.0 in
    let s = state c.loop-row.due c.loop-row.found.pit.items c.loop-row.found.flow.items in
    let pit = c.loop-row.found.pit.items in
    let flow = c.loop-row.found.flow.items in
    let number : c.next_row.new.self.number ≡ count_of_lines c.args.text.now = c.in_default.ensures.end ∙ c.next_row.ensures.count ∙ c.loop-row.invariant.count in
    let ended = finish (step c.args.graph.now c.args.fixed.now.lists) (end (count_of_lines c.args.text.now)) s (rows_at c.loop-row.rows.number c.loop-row.rows.rest.now) [] (certificate_of c.args.graph.now c.args.fixed.now.lists c.args.text.now) c.loop-row.invariant.read c.in_default.ensures.row in
    let is = ended ∙ ap (λ k. end_at k c.loop-row.due c.loop-row.found.pit.items c.loop-row.found.flow.items) (sym number) in
    rw (p.1, p.2) (record { exact = fails_map e.refusal e (end_at c.next_row.new.self.number c.loop-row.due pit flow) (certificate_of c.args.graph.now c.args.fixed.now.lists c.args.text.now) (λ h. is ∙ h) (c.in_err-check_end.ensures pit flow) })

pub returns : goal.returns
returns c =
    let s = state c.loop-row.due c.loop-row.found.pit.items c.loop-row.found.flow.items in
    let all = certificate_of c.args.graph.now c.args.fixed.now.lists c.args.text.now in
    let number : c.next_row.new.self.number ≡ count_of_lines c.args.text.now = c.in_default.ensures.end ∙ c.next_row.ensures.count ∙ c.loop-row.invariant.count in
    let ended = finish (step c.args.graph.now c.args.fixed.now.lists) (end (count_of_lines c.args.text.now)) s (rows_at c.loop-row.rows.number c.loop-row.rows.rest.now) [] (certificate_of c.args.graph.now c.args.fixed.now.lists c.args.text.now) c.loop-row.invariant.read c.in_default.ensures.row in
    record { exact = ended ∙ ap (λ k. end_at k c.loop-row.due c.loop-row.found.pit.items c.loop-row.found.flow.items) (sym number) ∙ c.in_ok-check_end.ensures c.loop-row.found.pit.items c.loop-row.found.flow.items }
