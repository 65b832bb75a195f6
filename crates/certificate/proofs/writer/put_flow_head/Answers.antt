-- The word, the number and the end of the line.
use Rattle.report.proofs.PutLemmas.{puts_then}
use Rattle.certificate.specs.CertificateText.{flow_head}
use Rattle.certificate.proofs.writer.put_flow_head.Goals as goal

pub returns-clause-puts : goal.returns-clause-puts
unfolding flow_head
returns-clause-puts g c =
    let two = puts_then _ _ _ _ _ _ _ _ c.put.ensures.puts c.put_number.ensures.puts in
    puts_then _ _ _ _ _ _ _ _ two c.end_line.ensures.puts
