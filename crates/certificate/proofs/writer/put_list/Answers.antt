-- The word, the number, the end of the line, and the lines of the blocks.
use Rattle.report.proofs.PutLemmas.{puts_then}
use Rattle.certificate.specs.CertificateText.{list_text}
use Rattle.certificate.proofs.writer.put_list.Goals as goal

pub returns-clause-puts : goal.returns-clause-puts
unfolding list_text
returns-clause-puts g c =
    let two = puts_then _ _ _ _ _ _ _ _ c.put.ensures.puts c.put-2.ensures.puts in
    let three = puts_then _ _ _ _ _ _ _ _ two c.put_number.ensures.puts in
    let four = puts_then _ _ _ _ _ _ _ _ three c.end_line.ensures.puts in
    puts_then _ _ _ _ _ _ _ _ four c.put_ids.ensures.puts
