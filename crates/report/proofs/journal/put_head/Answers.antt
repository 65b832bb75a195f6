-- The pieces of the head, one after the other.
use Rattle.std.proofs.Common.{ap}
use Rattle.std.specs.Prelude.{decimal}
use Rattle.pit_model.specs.JournalText.{journal_head}
use Rattle.report.proofs.PutLemmas.{puts_then, puts_as}
use Rattle.report.proofs.journal.put_head.Goals as goal

pub returns-clause-puts : goal.returns-clause-puts
unfolding journal_head
returns-clause-puts g c =
    let two = puts_then _ _ _ _ _ _ _ _ c.put.ensures.puts (puts_as (ap decimal c.n.ensures) c.put_number.ensures.puts) in
    let three = puts_then _ _ _ _ _ _ _ _ two c.put-2.ensures.puts in
    let four = puts_then _ _ _ _ _ _ _ _ three (puts_as (ap decimal c.arcs.ensures) c.put_number-2.ensures.puts) in
    let five = puts_then _ _ _ _ _ _ _ _ four c.put-3.ensures.puts in
    let six = puts_then _ _ _ _ _ _ _ _ five c.put_budget.ensures.puts in
    let seven = puts_then _ _ _ _ _ _ _ _ six c.put-4.ensures.puts in
    let eight = puts_then _ _ _ _ _ _ _ _ seven c.put_number-3.ensures.puts in
    puts_then _ _ _ _ _ _ _ _ eight c.end_line.ensures.puts
