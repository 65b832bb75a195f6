-- Each way out is one of the steps.
use Rattle.std.proofs.Common.{◌≡◌, ℕ, List, ◌-◌, ◌+◌, suc, Ok, arith, ap, sym, ◌∙◌}
use Rattle.std.specs.Prelude.{codes}
use Rattle.std.proofs.lemmas.Result.{err_from_is_err_and}
use Rattle.minelib_reader.specs.Text.{row, fields_of}
use Rattle.minelib_reader.proofs.AnswerLemmas.{fails_map}
use Rattle.certificate.specs.declared.due.CertificateLine.TheVariants.{Block}
use Rattle.certificate.specs.CertificateLines.{count_line, id_line, block_step, state}
use Rattle.certificate.proofs.Steps.{last_block, last_block_fails, next_block, next_block_fails}
use Rattle.certificate.proofs.reader.take_block.Goals as goal

pub returns-in_err-count-clause-err : goal.returns-in_err-count-clause-err
returns-in_err-count-clause-err c =
    let p = err_from_is_err_and c.from_residual.result c.from_residual.ensures.1 in
    let e = c.in_err-count.field-0.0 in
    let r = row c.args.r.line (fields_of c.args.r.text.now) in
    rw (p.1, p.2) (λ flow. fails_map e.refusal e (count_line (codes "FLOW:") c.arcs.result r) (block_step c.args.graph.now c.args.left c.args.from c.args.pit.now.items flow r)
    (λ h. last_block_fails c.args.graph.now c.args.from r e c.args.left c.arcs.result c.args.pit.now.items flow c.if-left-eq0.true c.arcs.ensures h) c.in_err-count.ensures.gives)

pub returns-then-left-eq0-clause-ok : goal.returns-then-left-eq0-clause-ok
returns-then-left-eq0-clause-ok c flow =
    let r = row c.args.r.line (fields_of c.args.r.text.now) in
    last_block c.args.graph.now c.args.from r c.args.left c.arcs.result c.in_ok-count.count c.args.pit.now.items flow c.if-left-eq0.true c.arcs.ensures c.in_ok-count.ensures.gives

pub returns-in_err-id-clause-err : goal.returns-in_err-id-clause-err
returns-in_err-id-clause-err c =
    let p = err_from_is_err_and c.from_residual-in_err-id.result c.from_residual-in_err-id.ensures.1 in
    let e = c.in_err-id.field-0.0 in
    let r = row c.args.r.line (fields_of c.args.r.text.now) in
    let more : c.args.left ≡ suc (c.args.left - 1) = omega (arith, c.if-left-eq0.false) in
    rw (p.1, p.2) (λ flow. fails_map e.refusal e (id_line c.n.result c.args.from r) (block_step c.args.graph.now c.args.left c.args.from c.args.pit.now.items flow r)
    (λ h. next_block_fails c.args.graph.now c.args.from r e c.args.left (c.args.left - 1) c.n.result c.args.pit.now.items flow more c.n.ensures h) c.in_err-id.ensures.gives)

pub returns-clause-ok : goal.returns-clause-ok
returns-clause-ok c flow =
    let r = row c.args.r.line (fields_of c.args.r.text.now) in
    let more : c.args.left ≡ suc (c.args.left - 1) = omega (arith, c.if-left-eq0.false) in
    next_block c.args.graph.now c.args.from r c.args.left (c.args.left - 1) c.n.result c.in_ok-id.id c.args.pit.now.items flow more c.n.ensures c.in_ok-id.ensures.gives
    ∙ ap (λ (ids : List ℕ). Ok (state (Block (c.args.left - 1) (c.in_ok-id.id + 1)) ids flow)) (sym c.in_ok-push.ensures.items)
