-- The pieces of the lines, one after the other.
use Rattle.std.proofs.Common.{ap}
use Rattle.std.specs.Prelude.{decimal}
use Rattle.report.proofs.PutLemmas.{puts_then, puts_as}
use Rattle.certificate.specs.CertificateText.{graph_head}
use Rattle.certificate.proofs.writer.put_graph_head.Goals as goal

pub returns-clause-puts : goal.returns-clause-puts
unfolding graph_head
returns-clause-puts g c =
    let two = puts_then _ _ _ _ _ _ _ _ c.put.ensures.puts c.put-2.ensures.puts in
    let three = puts_then _ _ _ _ _ _ _ _ two c.put-3.ensures.puts in
    let four = puts_then _ _ _ _ _ _ _ _ three (puts_as (ap decimal c.n.ensures) c.put_number.ensures.puts) in
    let five = puts_then _ _ _ _ _ _ _ _ four c.put-4.ensures.puts in
    let six = puts_then _ _ _ _ _ _ _ _ five (puts_as (ap decimal c.arcs.ensures) c.put_number-2.ensures.puts) in
    puts_then _ _ _ _ _ _ _ _ six c.end_line.ensures.puts
