-- What is said of reading and of checking is said of both.
use Rattle.std.proofs.Common.{◌≡◌, ap, ◌∙◌, subst}
use Rattle.std.proofs.lemmas.Result.{err_from_is_err_and}
use Rattle.minelib_reader.specs.Answer.{Refuses, ReadsText}
use Rattle.faults.specs.declared.source.Source.TheVariants as sources
use Rattle.pit_model.specs.Graph.{Graph}
use Rattle.certificate.specs.CertificateFault.{IsFirstCertificateFault}
use Rattle.certificate.specs.CertificateGrammar.{SpellsCertificate}
use Rattle.certificate.specs.CertificateLines.{pit_and_flow}
use Rattle.commands.specs.Solve.{reading, fixed_instance_of}
use Rattle.merging.specs.Parts.{graph_of_instance}
use Rattle.merging.proofs.SolvedPart.{graph_is}
use Rattle.commands.proofs.Checking.{reading_refused, is_answered}
use Rattle.commands.proofs.check.answer_of.Goals as goal

pub returns-in_err-shown-clause-refused : goal.returns-in_err-shown-clause-refused
returns-in_err-shown-clause-refused g c =
    let p = err_from_is_err_and c.from_residual.result c.from_residual.ensures.1 in
    let e = c.in_err-shown.field-0.0 in
    let before = g.C.InBytes.progress c.args.certificate.now in
    let after = g.C.InBytes.progress c.read.new.reader in
    let ended = g.C.InBytes.IsAtEnd c.read.new.reader in
    let same : c.deref.result.now ≡ graph_of_instance c.args.fixed_mine.now.mine = graph_is c.deref.result.now c.args.fixed_mine.now.mine
    (ap (λ (h : Graph). h.blocks) c.deref.ensures ∙ c.graph.ensures.blocks) (ap (λ (h : Graph). h.pairs) c.deref.ensures ∙ c.graph.ensures.pairs) in
    let refused = subst (λ (h : Graph). Refuses e.refusal sources.Certificate e before after (ReadsText before after ended (λ text. IsFirstCertificateFault h c.args.fixed_mine.now.fixed.lists text e))) same c.in_err-shown.ensures.answers in
    rw (p.1, p.2) (reading_refused e.refusal e (fixed_instance_of c.args.fixed_mine.now) (reading before after ended) refused)

pub returns-clause-answered : goal.returns-clause-answered
returns-clause-answered g c =
    let before = g.C.InBytes.progress c.args.certificate.now in
    let after = g.C.InBytes.progress c.read.new.reader in
    let ended = g.C.InBytes.IsAtEnd c.read.new.reader in
    let same : c.deref.result.now ≡ graph_of_instance c.args.fixed_mine.now.mine = graph_is c.deref.result.now c.args.fixed_mine.now.mine
    (ap (λ (h : Graph). h.blocks) c.deref.ensures ∙ c.graph.ensures.blocks) (ap (λ (h : Graph). h.pairs) c.deref.ensures ∙ c.graph.ensures.pairs) in
    let read = c.in_ok-shown.ensures.answers in
    let shown = pit_and_flow c.in_ok-shown.shown.pit.items c.in_ok-shown.shown.flow.items in
    is_answered (fixed_instance_of c.args.fixed_mine.now) (reading before after ended) c.check.result read.0 shown read.1
    (subst (λ (h : Graph). SpellsCertificate h c.args.fixed_mine.now.fixed.lists read.0 shown) same read.2) c.check.ensures.exact
