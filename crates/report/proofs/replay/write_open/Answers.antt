-- The pieces of the line, one after the other, and at the end nothing waits.
use Rattle.std.proofs.lemmas.List.{append-nil}
use Rattle.report.specs.ReplayText.{open_text}
use Rattle.report.proofs.PutLemmas.{puts_then, puts_as, puts_end}
use Rattle.report.proofs.replay.write_open.Goals as goal

pub returns-clause-text : goal.returns-clause-text
unfolding open_text
returns-clause-text g c =
    let two = puts_then _ _ _ _ _ _ _ _ c.put.ensures.puts c.put_number.ensures.puts in
    let three = puts_then _ _ _ _ _ _ _ _ two c.put-2.ensures.puts in
    puts_end _ _ _ _ _ c.finish.result (puts_as (append-nil _) (puts_then _ _ _ _ _ _ _ _ three c.finish.ensures.puts))
    c.new-out.ensures.bytes c.new-out.ensures.failed c.finish.ensures.none c.finish.ensures.answers
