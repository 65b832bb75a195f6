-- Both texts are put, one after the other, and at the end nothing waits.
use Rattle.std.proofs.Common.{◌≡◌, ◌∙◌, ◌++◌, ℤ, to_z, of_z, ap}
use Rattle.std.specs.Int.{w128}
use Rattle.std.proofs.lemmas.Int.{to_z-of_z}
use Rattle.std.proofs.lemmas.List.{append-nil}
use Rattle.report.proofs.PutLemmas.{puts_then, puts_as, puts_end}
use Rattle.schedule_runs.specs.Verdicts.{bound_text, verdict_text}
use Rattle.schedule_runs.proofs.text.write_both.Goals as goal

pub returns-clause-text : goal.returns-clause-text
returns-clause-text g c =
    let e : to_z w128 (of_z w128 c.args.bound) ≡ c.args.bound = to_z-of_z w128 c.args.bound c.ranges.bound in
    let both = puts_then _ _ _ _ _ _ _ _ c.put_verdict.ensures.puts c.put_bound.ensures.puts in
    let whole = append-nil (verdict_text c.args.verdict ++ bound_text (to_z w128 (of_z w128 c.args.bound))) ∙ ap (λ (x : ℤ). verdict_text c.args.verdict ++ bound_text x) e in
    puts_end _ _ _ _ _ c.finish.result (puts_as whole (puts_then _ _ _ _ _ _ _ _ both c.finish.ensures.puts))
    c.new-out.ensures.bytes c.new-out.ensures.failed c.finish.ensures.none c.finish.ensures.answers
