-- The pieces of the head, one after the other.
use Rattle.pit_model.specs.ShellText.{shells_head}
use Rattle.report.proofs.PutLemmas.{puts_then}
use Rattle.report.proofs.shells.put_shells_head.Goals as goal

pub returns-clause-puts : goal.returns-clause-puts
unfolding shells_head
returns-clause-puts g c =
    let two = puts_then _ _ _ _ _ _ _ _ c.put.ensures.puts c.put_number.ensures.puts in
    let three = puts_then _ _ _ _ _ _ _ _ two c.put-2.ensures.puts in
    let four = puts_then _ _ _ _ _ _ _ _ three c.put_number-2.ensures.puts in
    puts_then _ _ _ _ _ _ _ _ four c.end_line.ensures.puts
