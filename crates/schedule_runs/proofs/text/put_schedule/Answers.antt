-- The pieces of the text, one after the other.
use Rattle.std.proofs.Common.{◌≡◌, to_z, of_z, ap}
use Rattle.std.specs.Int.{w128}
use Rattle.std.proofs.lemmas.Int.{to_z-of_z}
use Rattle.pit_model.specs.PitText.{with_six_decimals}
use Rattle.report.proofs.PutLemmas.{puts_then, puts_as}
use Rattle.schedule_runs.specs.Verdicts.{verdict_text}
use Rattle.schedule_runs.proofs.text.put_schedule.Goals as goal

pub returns-clause-puts : goal.returns-clause-puts
unfolding verdict_text
returns-clause-puts g c =
    let e : to_z w128 (of_z w128 c.args.value) ≡ c.args.value = to_z-of_z w128 c.args.value c.ranges.value in
    let two = puts_then _ _ _ _ _ _ _ _ c.put.ensures.puts (puts_as (ap with_six_decimals e) c.put_millionths.ensures.puts) in
    let three = puts_then _ _ _ _ _ _ _ _ two c.end_line.ensures.puts in
    puts_then _ _ _ _ _ _ _ _ three (puts_as c.whole_line.ensures.line c.put-2.ensures.puts)
