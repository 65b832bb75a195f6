-- Each way through the loop is one step of `fixed_from`.
use Rattle.std.proofs.Common.{◌≡◌, ◌+◌, true, false, ap, sym, subst, ◌∙◌, List, ℕ, Bool, Ok}
use Rattle.std.proofs.lemmas.Result.{err_from_is_err_and}
use Rattle.minelib_reader.specs.Text.{row, rows_at, fields_of}
use Rattle.minelib_reader.specs.Fixed.{fixed_blocks_of, fixed_from, fixed_line, fixed_lists}
use Rattle.minelib_reader.proofs.AnswerLemmas.{fails_map}
use Rattle.minelib_reader.proofs.FixedLineLemmas.{go_on, stop, end, with_lists}
use Rattle.minelib_reader.proofs.fixed.parse_lines.Goals as goal
use Rattle.minelib_reader.proofs.fixed.parse_lines.Goals.{then-is_forced+in_ok-push, else-is_forced+in_ok-push-2}

pub returns-in_err-is_forced : goal.returns-in_err-is_forced
returns-in_err-is_forced c =
    let p = err_from_is_err_and c.from_residual.result c.from_residual.ensures.1 in
    let e = c.in_err-is_forced.field-0.0 in
    let s = c.loop-row.rows in
    let t = c.next_row.new.self in
    let r = row c.in-Some.row.line (fields_of c.in-Some.row.text.now) in
    let all = fixed_blocks_of c.args.n c.args.text.now in
    rw (p.1, p.2) (fails_map e.refusal e (fixed_line c.args.n c.loop-row.from r) all
    (λ h. stop e c.args.n c.loop-row.from (rows_at s.number s.rest.now) (rows_at t.number t.rest.now) r (fixed_lists c.loop-row.forced.items c.loop-row.barred.items) all c.in-Some.ensures.row h c.loop-row.invariant) c.in_err-is_forced.ensures.gives)

pub loop-row-preserved : goal.loop-row-preserved
loop-row-preserved c =
    let s = c.loop-row.rows in
    let t = c.next_row.new.self in
    let r = row c.in-Some.row.line (fields_of c.in-Some.row.text.now) in
    let front = fixed_lists c.loop-row.forced.items c.loop-row.barred.items in
    let all = fixed_blocks_of c.args.n c.args.text.now in
    let id = c.in_ok-is_forced.id in
    let behind = fixed_from c.args.n (id + 1) (rows_at t.number t.rest.now) in
    let on = λ (b : Bool) (is : c.in_ok-is_forced.is_forced ≡ b).
    go_on c.args.n c.loop-row.from (rows_at s.number s.rest.now) (rows_at t.number t.rest.now) r (b, id) front all c.in-Some.ensures.row
    (c.in_ok-is_forced.ensures.gives ∙ ap (λ (x : Bool). Ok (x, id)) is) c.loop-row.invariant in
    elim c.if-is_forced.branch [
      | then-is_forced+in_ok-push w ↦
          rw (w.forced-is, w.barred-is) (subst (λ (xs : List ℕ). with_lists (fixed_lists xs c.loop-row.barred.items) behind ≡ all) (sym w.in_ok-push.ensures.items) (on true w.if-is_forced.true))
      | else-is_forced+in_ok-push-2 w ↦
          rw (w.forced-is, w.barred-is) (subst (λ (xs : List ℕ). with_lists (fixed_lists c.loop-row.forced.items xs) behind ≡ all) (sym w.in_ok-push-2.ensures.items) (on false w.if-is_forced.false))
    ]

pub returns : goal.returns
returns c =
    let s = c.loop-row.rows in
    end c.args.n c.loop-row.from (rows_at s.number s.rest.now) (fixed_lists c.loop-row.forced.items c.loop-row.barred.items) (fixed_blocks_of c.args.n c.args.text.now) c.in_default.ensures.row c.loop-row.invariant
