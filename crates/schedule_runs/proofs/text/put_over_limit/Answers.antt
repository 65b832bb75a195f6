-- The pieces of the text, one after the other.
use Rattle.std.proofs.Common.{◌≡◌, to_z, of_z, ap, rules}
use Rattle.std.specs.Int.{w128}
use Rattle.std.proofs.lemmas.Int.{to_z-of_z}
use Rattle.pit_model.specs.PitText.{with_six_decimals}
use Rattle.report.proofs.PutLemmas.{puts_then, puts_as}
use Rattle.schedule_runs.specs.Verdicts.{verdict_text}
use Rattle.schedule_runs.proofs.text.put_over_limit.Goals as goal

pub returns-clause-puts : goal.returns-clause-puts
unfolding verdict_text
returns-clause-puts g c =
    let d : to_z w128 (of_z w128 c.args.excess.used) ≡ c.args.excess.used = to_z-of_z w128 c.args.excess.used (search rules) in
    let e : to_z w128 (of_z w128 c.args.excess.most) ≡ c.args.excess.most = to_z-of_z w128 c.args.excess.most (search rules) in
    let two = puts_then _ _ _ _ _ _ _ _ c.put.ensures.puts c.put_number.ensures.puts in
    let three = puts_then _ _ _ _ _ _ _ _ two c.put-2.ensures.puts in
    let four = puts_then _ _ _ _ _ _ _ _ three c.put_number-2.ensures.puts in
    let five = puts_then _ _ _ _ _ _ _ _ four c.put-3.ensures.puts in
    let six = puts_then _ _ _ _ _ _ _ _ five (puts_as (ap with_six_decimals d) c.put_millionths.ensures.puts) in
    let seven = puts_then _ _ _ _ _ _ _ _ six c.put-4.ensures.puts in
    let eight = puts_then _ _ _ _ _ _ _ _ seven (puts_as (ap with_six_decimals e) c.put_millionths-2.ensures.puts) in
    puts_then _ _ _ _ _ _ _ _ eight c.end_line.ensures.puts
