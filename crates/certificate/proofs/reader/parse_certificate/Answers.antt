-- What `parse_lines` answers is what is read of the text, and the laws say what that is.
use Rattle.std.proofs.Common.{subst, length}
use Rattle.minelib_reader.specs.Answer.{Gives}
use Rattle.minelib_reader.specs.Text.{rows_of, count_of_lines}
use Rattle.minelib_reader.proofs.AnswerLemmas.{value_told, fault_told}
use Rattle.certificate.specs.CertificateLines.{certificate_of, first_state, pit_and_flow, step, end}
use Rattle.certificate.specs.CertificateFault.{IsFirstCertificateFault}
use Rattle.optimality.specs.Check.{IsCandidate}
use Rattle.certificate.specs.CertificateGrammar.{SpellsCertificate}
use Rattle.certificate.proofs.Lawful.{lawful}
use Rattle.certificate.proofs.TextRead.{reads}
use Rattle.certificate.proofs.TextFound.{spelled}
use Rattle.report.proofs.FirstFaults.{fails_first}
use Rattle.certificate.proofs.reader.parse_certificate.Goals as goal

pub returns-clause-spelled : goal.returns-clause-spelled
returns-clause-spelled c =
    let g = c.args.graph.now in
    let lists = c.args.fixed.now.lists in
    let text = c.args.text.now in
    value_told (λ m. pit_and_flow m.pit.items m.flow.items) c.parse_lines.result (certificate_of g lists text) (SpellsCertificate g lists text)
    (spelled g lists (count_of_lines text) (rows_of text)) c.parse_lines.ensures.exact

pub returns-clause-read : goal.returns-clause-read
returns-clause-read c m s =
    let g = c.args.graph.now in
    let lists = c.args.fixed.now.lists in
    let text = c.args.text.now in
    subst (λ f. Gives (λ m. pit_and_flow m.pit.items m.flow.items) c.parse_lines.result f) (reads g lists (count_of_lines text) (rows_of text) m c.law.ensures.graph.rising s) c.parse_lines.ensures.exact

pub returns-clause-first_fault : goal.returns-clause-first_fault
returns-clause-first_fault c =
    let g = c.args.graph.now in
    let lists = c.args.fixed.now.lists in
    let text = c.args.text.now in
    fault_told (λ m. pit_and_flow m.pit.items m.flow.items) c.parse_lines.result (certificate_of g lists text) (IsFirstCertificateFault g lists text)
    (fails_first (step g lists) (end (count_of_lines text)) (first_state g) (rows_of text)) c.parse_lines.ensures.exact

pub returns-clause-candidate : goal.returns-clause-candidate
returns-clause-candidate c =
    let g = c.args.graph.now in
    let lists = c.args.fixed.now.lists in
    let text = c.args.text.now in
    value_told (λ m. pit_and_flow m.pit.items m.flow.items) c.parse_lines.result (certificate_of g lists text) (λ m. IsCandidate g.blocks (length g.pairs) m.pit m.flow)
    (λ m e. lawful g lists (rows_of text) m (spelled g lists (count_of_lines text) (rows_of text) m e)) c.parse_lines.ensures.exact
