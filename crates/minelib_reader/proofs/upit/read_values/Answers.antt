-- Each way out of a turn is a check that failed; a whole turn reads one value more.
use Rattle.std.proofs.Common.{◌≡◌, ℕ, ℤ, List, ◌∷◌, [], ◌++◌, ◌-◌, ◌+◌, ap, subst, sym, ◌∙◌}
use Rattle.std.proofs.Common.{rules, arith, length, length-append, ◌^◌}
use Rattle.std.proofs.lemmas.List.Elements.{All-append, All-cons, All-nil}
use Rattle.minelib_reader.specs.Number.{IsBounded}
use Rattle.minelib_reader.specs.UpitLimits.{AreSmall}
use mir.Val.{SFits}
use Rattle.std.specs.Int.{w128}
use Rattle.std.proofs.lemmas.Int.{to_z-of_z}
use Rattle.std.proofs.lemmas.Result.{err_from_is_err_and}
use Rattle.minelib_reader.specs.Text.{row, rows_at, lines_at, fields_of}
use Rattle.minelib_reader.specs.Upit.{values_from}
use Rattle.minelib_reader.proofs.AnswerLemmas.{fails_map}
use Rattle.minelib_reader.proofs.ValueLemmas.{AreLeft, value_read, no_line_due, no_value, all_read}
use Rattle.minelib_reader.proofs.upit.read_values.Goals as goal

pub returns-in_err-row-clause-gives : goal.returns-in_err-row-clause-gives
returns-in_err-row-clause-gives c =
    let p = err_from_is_err_and c.from_residual.result c.from_residual.ensures.1 in
    let s = c.loop-id.rows in
    let whole = values_from (lines_at c.args.rows.now.number c.args.rows.now.rest.now) 0 c.args.n (rows_at c.args.rows.now.number c.args.rows.now.rest.now) in
    let e = c.in_err-row.field-0.0 in
    rw (p.1, p.2) (fails_map e.refusal e _ whole (no_line_due e c.loop-id.values.items (lines_at s.number s.rest.now) c.args.n c.loop-id.id (rows_at s.number s.rest.now) whole c.loop-id-test.true c.loop-id.invariant.left) c.in_err-row.ensures.gives)

pub returns-in_err-value-clause-gives : goal.returns-in_err-value-clause-gives
returns-in_err-value-clause-gives c =
    let p = err_from_is_err_and c.from_residual-in_err-value.result c.from_residual-in_err-value.ensures.1 in
    let s = c.loop-id.rows in
    let whole = values_from (lines_at c.args.rows.now.number c.args.rows.now.rest.now) 0 c.args.n (rows_at c.args.rows.now.number c.args.rows.now.rest.now) in
    let e = c.in_err-value.field-0.0 in
    let r = c.in_ok-row.row in
    rw (p.1, p.2) (fails_map e.refusal e _ whole (no_value e c.loop-id.values.items (lines_at s.number s.rest.now) c.args.n c.loop-id.id (rows_at s.number s.rest.now) (row r.line (fields_of r.text.now)) _ whole c.loop-id-test.true c.in_ok-row.ensures.gives c.loop-id.invariant.left) c.in_err-value.ensures.gives)

pub loop-id-preserved : goal.loop-id-preserved
loop-id-preserved c =
    let s = c.loop-id.rows in
    let t = c.next_due.new.rows in
    let whole = values_from (lines_at c.args.rows.now.number c.args.rows.now.rest.now) 0 c.args.n (rows_at c.args.rows.now.number c.args.rows.now.rest.now) in
    let r = c.in_ok-row.row in
    let same = c.in_ok-row.ensures.count in
    let read = c.loop-id.values.items in
    let value = c.in_ok-value.value in
    let next = value_read read (lines_at s.number s.rest.now) c.args.n c.loop-id.id (rows_at s.number s.rest.now) (row r.line (fields_of r.text.now)) (rows_at t.number t.rest.now) value whole c.loop-id-test.true c.in_ok-row.ensures.gives c.in_ok-value.ensures.gives c.loop-id.invariant.left in
    let fits : SFits w128 value = search rules in
    let items : c.push.new.self.items ≡ read ++ value ∷ [] = c.in_ok-push.ensures.items ∙ ap (λ (v : ℤ). read ++ v ∷ []) (to_z-of_z w128 value fits) in
    let left = c.args.n - (c.loop-id.id + 1) in
    record {
      left = subst (λ (vs : List ℤ). AreLeft vs (lines_at t.number t.rest.now) (c.loop-id.id + 1) left (rows_at t.number t.rest.now) whole) (sym items)
          (subst (λ (k : ℕ). AreLeft (read ++ value ∷ []) k (c.loop-id.id + 1) left (rows_at t.number t.rest.now) whole) (sym same) next);
      count = same ∙ c.loop-id.invariant.count;
      length = omega (arith, ap length items, length-append read (value ∷ []), c.loop-id.invariant.length);
      small = subst AreSmall (sym items) (All-append (IsBounded (10 ^ 18)) read (value ∷ []) c.loop-id.invariant.small (All-cons (IsBounded (10 ^ 18)) value [] c.in_ok-value.ensures.small (All-nil (IsBounded (10 ^ 18)))));
    }

pub returns-clause-gives : goal.returns-clause-gives
returns-clause-gives c =
    let s = c.loop-id.rows in
    all_read c.loop-id.values.items (lines_at s.number s.rest.now) c.args.n c.loop-id.id (rows_at s.number s.rest.now) _ c.loop-id-test.false c.loop-id.invariant.left
