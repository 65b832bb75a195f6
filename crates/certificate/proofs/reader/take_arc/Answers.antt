-- Each way out is one of the steps.
use Rattle.std.proofs.Common.{◌≡◌, ◌-◌, ◌+◌, suc, set, Ok, arith, ap, sym, ◌∙◌}
use Rattle.std.specs.Prelude.{ℤ, pos}
use Rattle.std.proofs.lemmas.Int.{to_z_pos}
use Rattle.std.proofs.lemmas.Result.{err_from_is_err_and}
use Rattle.minelib_reader.specs.Text.{row, fields_of}
use Rattle.minelib_reader.proofs.AnswerLemmas.{fails_map}
use Rattle.certificate.specs.declared.due.CertificateLine.TheVariants.{Arc}
use Rattle.certificate.specs.CertificateLines.{arc_line, arc_step, state}
use mir.Val.{to_z}
use mir.Syntax.{w128}
use Rattle.certificate.proofs.Steps.{no_arc, next_arc, next_arc_fails}
use Rattle.certificate.proofs.reader.take_arc.Goals as goal

pub returns-then-left-eq0-clause-err : goal.returns-then-left-eq0-clause-err
returns-then-left-eq0-clause-err c =
    let r = row c.args.r.line (fields_of c.args.r.text.now) in
    rw c.in_certificate.ensures (λ pit. no_arc c.args.graph.now c.args.from r c.args.left pit c.args.flow.now.items c.if-left-eq0.true)

pub returns-in_err-arc-clause-err : goal.returns-in_err-arc-clause-err
returns-in_err-arc-clause-err c =
    let p = err_from_is_err_and c.from_residual.result c.from_residual.ensures.1 in
    let e = c.in_err-arc.field-0.0 in
    let r = row c.args.r.line (fields_of c.args.r.text.now) in
    let more : c.args.left ≡ suc (c.args.left - 1) = omega (arith, c.if-left-eq0.false) in
    rw (p.1, p.2) (λ pit. fails_map e.refusal e (arc_line c.args.graph.now.pairs c.args.from r) (arc_step c.args.graph.now c.args.left c.args.from pit c.args.flow.now.items r)
    (λ h. next_arc_fails c.args.graph.now c.args.from r e c.args.left (c.args.left - 1) pit c.args.flow.now.items more h) c.in_err-arc.ensures.gives)

pub returns-clause-ok : goal.returns-clause-ok
returns-clause-ok c pit =
    let r = row c.args.r.line (fields_of c.args.r.text.now) in
    let more : c.args.left ≡ suc (c.args.left - 1) = omega (arith, c.if-left-eq0.false) in
    let small = c.in_ok-arc.ensures.small in
    let same : to_z w128 c.in_ok-arc.amount ≡ pos c.in_ok-arc.amount = to_z_pos w128 c.in_ok-arc.amount (omega (arith, small)) in
    next_arc c.args.graph.now c.args.from r c.args.left (c.args.left - 1) (c.in_ok-arc.arc, c.in_ok-arc.amount) pit c.args.flow.now.items more c.in_ok-arc.ensures.gives
    ∙ ap (λ (x : ℤ). Ok (state (Arc (c.args.left - 1) (c.in_ok-arc.arc + 1)) pit (set c.args.flow.now.items c.in_ok-arc.arc x))) (sym same)
