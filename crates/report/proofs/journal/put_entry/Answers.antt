-- The seat, the arc and the number of the verdict, with a space between, and the end of the line.
use Rattle.std.proofs.Common.{ap}
use Rattle.std.specs.Prelude.{decimal}
use Rattle.pit_model.specs.JournalText.{entry_line}
use Rattle.report.proofs.PutLemmas.{puts_then, puts_as}
use Rattle.report.proofs.journal.put_entry.Goals as goal

pub returns-clause-puts : goal.returns-clause-puts
unfolding entry_line
returns-clause-puts g c =
    let two = puts_then _ _ _ _ _ _ _ _ c.put_number.ensures.puts c.put.ensures.puts in
    let three = puts_then _ _ _ _ _ _ _ _ two c.put_number-2.ensures.puts in
    let four = puts_then _ _ _ _ _ _ _ _ three c.put-2.ensures.puts in
    let five = puts_then _ _ _ _ _ _ _ _ four (puts_as (ap decimal c.verdict_number.ensures) c.put_number-3.ensures.puts) in
    puts_then _ _ _ _ _ _ _ _ five c.end_line.ensures.puts
