-- The pieces of the text, one after the other.
use Rattle.report.proofs.PutLemmas.{puts_then}
use Rattle.schedule_runs.specs.Verdicts.{verdict_text}
use Rattle.schedule_runs.proofs.text.put_before_needed.Goals as goal

pub returns-clause-puts : goal.returns-clause-puts
unfolding verdict_text
returns-clause-puts g c =
    let two = puts_then _ _ _ _ _ _ _ _ c.put.ensures.puts c.put_number.ensures.puts in
    let three = puts_then _ _ _ _ _ _ _ _ two c.put-2.ensures.puts in
    let four = puts_then _ _ _ _ _ _ _ _ three c.put_number-2.ensures.puts in
    let five = puts_then _ _ _ _ _ _ _ _ four c.put-3.ensures.puts in
    let six = puts_then _ _ _ _ _ _ _ _ five c.put_number-3.ensures.puts in
    puts_then _ _ _ _ _ _ _ _ six c.end_line.ensures.puts
