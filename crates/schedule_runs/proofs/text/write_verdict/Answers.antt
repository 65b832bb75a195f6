-- The text of the verdict is put, and at the end nothing waits.
use Rattle.std.proofs.lemmas.List.{append-nil}
use Rattle.report.proofs.PutLemmas.{puts_then, puts_as, puts_end}
use Rattle.schedule_runs.specs.Verdicts.{verdict_text}
use Rattle.schedule_runs.proofs.text.write_verdict.Goals as goal

pub returns-clause-text : goal.returns-clause-text
returns-clause-text g c =
    puts_end _ _ _ _ _ c.finish.result (puts_as (append-nil (verdict_text c.args.verdict)) (puts_then _ _ _ _ _ _ _ _ c.put_verdict.ensures.puts c.finish.ensures.puts))
    c.new-out.ensures.bytes c.new-out.ensures.failed c.finish.ensures.none c.finish.ensures.answers
