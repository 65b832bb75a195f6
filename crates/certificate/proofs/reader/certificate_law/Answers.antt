-- Both laws at the lines of a text.
use Rattle.std.proofs.Common.{refl}
use Rattle.minelib_reader.specs.Text.{rows_of, count_of_lines}
use Rattle.minelib_reader.proofs.FirstFaultLemmas.{fails_by_first}
use Rattle.certificate.specs.CertificateLines.{certificate_of, first_state, step, end}
use Rattle.certificate.specs.CertificateFault.{certificate_fault_at}
use Rattle.certificate.proofs.TextRead.{reads}
use Rattle.certificate.proofs.TextFound.{spelled}
use Rattle.report.proofs.FirstFaults.{fails_first, clear_where_read}
use Rattle.certificate.proofs.reader.certificate_law.Goals as goal

pub returns-clause-spelled : goal.returns-clause-spelled
returns-clause-spelled c = λ graph lists text m rising. (spelled graph lists (count_of_lines text) (rows_of text) m, reads graph lists (count_of_lines text) (rows_of text) m rising)

pub returns-clause-faulty : goal.returns-clause-faulty
returns-clause-faulty c = λ graph lists text e. (
  fails_first (step graph lists) (end (count_of_lines text)) (first_state graph) (rows_of text) e,
  fails_by_first (certificate_of graph lists text) (certificate_of graph lists text) (certificate_fault_at graph lists text) e refl
      (clear_where_read (step graph lists) (end (count_of_lines text)) (first_state graph) (rows_of text)) (fails_first (step graph lists) (end (count_of_lines text)) (first_state graph) (rows_of text)),
)
