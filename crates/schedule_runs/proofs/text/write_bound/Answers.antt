-- The text of the bound is put, and at the end nothing waits.
use Rattle.std.proofs.Common.{◌≡◌, ◌∙◌, to_z, of_z, ap}
use Rattle.std.specs.Int.{w128}
use Rattle.std.proofs.lemmas.Int.{to_z-of_z}
use Rattle.std.proofs.lemmas.List.{append-nil}
use Rattle.report.proofs.PutLemmas.{puts_then, puts_as, puts_end}
use Rattle.schedule_runs.specs.Verdicts.{bound_text}
use Rattle.schedule_runs.proofs.text.write_bound.Goals as goal

pub returns-clause-text : goal.returns-clause-text
returns-clause-text g c =
    let e : to_z w128 (of_z w128 c.args.bound) ≡ c.args.bound = to_z-of_z w128 c.args.bound c.ranges.bound in
    puts_end _ _ _ _ _ c.finish.result (puts_as (append-nil (bound_text (to_z w128 (of_z w128 c.args.bound))) ∙ ap bound_text e) (puts_then _ _ _ _ _ _ _ _ c.put_bound.ensures.puts c.finish.ensures.puts))
    c.new-out.ensures.bytes c.new-out.ensures.failed c.finish.ensures.none c.finish.ensures.answers
