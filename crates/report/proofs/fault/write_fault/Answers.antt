-- The pieces of the line, one after the other, and at the end nothing waits.
use Rattle.std.proofs.Common.{ap, ◌∙◌}
use Rattle.std.specs.Prelude.{decimal}
use Rattle.std.proofs.lemmas.List.{append-nil}
use Rattle.report.specs.FaultText.{fault_text}
use Rattle.report.proofs.PutLemmas.{puts_then, puts_as, puts_end}
use Rattle.report.proofs.fault.write_fault.Goals as goal

pub returns-clause-text : goal.returns-clause-text
unfolding fault_text
returns-clause-text g c =
    let two = puts_then _ _ _ _ _ _ _ _ c.put.ensures.puts (puts_as (ap decimal c.number.ensures) c.put_number.ensures.puts) in
    let three = puts_then _ _ _ _ _ _ _ _ two c.put-2.ensures.puts in
    let four = puts_then _ _ _ _ _ _ _ _ three (puts_as (c.as_bytes.ensures.value ∙ c.words.ensures.text) c.put-3.ensures.puts) in
    let five = puts_then _ _ _ _ _ _ _ _ four c.put_detail.ensures.puts in
    let six = puts_then _ _ _ _ _ _ _ _ five (puts_as (c.as_bytes-2.ensures.value ∙ c.words-2.ensures.text) c.put-4.ensures.puts) in
    let seven = puts_then _ _ _ _ _ _ _ _ six c.put_place.ensures.puts in
    let eight = puts_then _ _ _ _ _ _ _ _ seven c.end_line.ensures.puts in
    puts_end _ _ _ _ _ c.finish.result (puts_as (append-nil _) (puts_then _ _ _ _ _ _ _ _ eight c.finish.ensures.puts))
    c.new-out.ensures.bytes c.new-out.ensures.failed c.finish.ensures.none c.finish.ensures.answers
