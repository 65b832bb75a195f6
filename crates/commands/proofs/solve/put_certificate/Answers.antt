use Rattle.std.proofs.Common.{◌≡◌, refl, subst, ◌∙◌}
use Rattle.std.specs.Arc.{arc_value}
use Rattle.pit_model.specs.Graph.{Graph}
use Rattle.certificate.specs.CertificateLines.{pit_and_flow}
use Rattle.certificate.specs.CertificateText.{certificate_text}
use Rattle.certificate.specs.CertificateGrammar.{SpellsCertificate}
use Rattle.merging.specs.Parts.{graph_of_instance}
use Rattle.commands.specs.Solve.{fixed_instance_of}
use Rattle.commands.proofs.Certifying.{puts}
use Rattle.merging.proofs.SolvedPart.{graph_is}
use Rattle.commands.proofs.solve.put_certificate.Goals as goal

pub returns-in-Some : goal.returns-in-Some
returns-in-Some g c =
    let mine = c.args.fixed_mine.now.mine in
    let pit = c.args.certificate.now.pit.items in
    let flow = c.args.certificate.now.flow.items in
    let lists = c.args.fixed_mine.now.fixed.lists in
    let text = certificate_text c.deref.result.now lists pit flow in
    let same : c.deref.result.now ≡ graph_of_instance mine = c.deref.ensures ∙ graph_is (arc_value c.graph.result.now) mine c.graph.ensures.blocks c.graph.ensures.pairs in
    let spelled : SpellsCertificate (graph_of_instance mine) lists text (pit_and_flow pit flow) = subst (λ (graph : Graph). SpellsCertificate graph lists text (pit_and_flow pit flow)) same c.write.ensures.spelled in
    let old = g.C.OutBytes.progress c.in-Some.writer in
    let new = g.C.OutBytes.progress c.write.new.writer in
    rw (c.in-Some.is, c.in-Some.writer-is) (record { puts = puts (fixed_instance_of c.args.fixed_mine.now) (pit_and_flow pit flow) old new text c.write.result spelled c.requires.shown.certifies c.write.ensures.text c.write.ensures.refused; stays = refl })
