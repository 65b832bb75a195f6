-- The factor, the number of blocks and the worth, with a space between, and the end of the line.
use Rattle.std.proofs.Common.{◌≡◌, List, ℕ, length, to_z, of_z, ap, rules}
use Rattle.std.specs.Prelude.{decimal}
use Rattle.std.specs.Int.{w128}
use Rattle.std.proofs.lemmas.Int.{to_z-of_z}
use mir.Val.{SFits}
use Rattle.pit_model.specs.ShellText.{shell_line, with_nine_decimals}
use Rattle.report.proofs.PutLemmas.{puts_then, puts_as}
use Rattle.report.proofs.shells.put_shell.Goals as goal

pub returns-clause-puts : goal.returns-clause-puts
unfolding shell_line
returns-clause-puts g c =
    let fits : SFits w128 c.args.shell.now.worth = search rules in
    let e : to_z w128 (of_z w128 c.args.shell.now.worth) ≡ c.args.shell.now.worth = to_z-of_z w128 c.args.shell.now.worth fits in
    let count : length c.deref-pit.result.now ≡ length c.args.shell.now.pit.items = ap (λ (xs : List ℕ). length xs) c.deref-pit.ensures.value in
    let two = puts_then _ _ _ _ _ _ _ _ c.put_number.ensures.puts c.put.ensures.puts in
    let three = puts_then _ _ _ _ _ _ _ _ two (puts_as (ap decimal count) c.put_number-2.ensures.puts) in
    let four = puts_then _ _ _ _ _ _ _ _ three c.put-2.ensures.puts in
    let five = puts_then _ _ _ _ _ _ _ _ four (puts_as (ap with_nine_decimals e) c.put_billionths.ensures.puts) in
    puts_then _ _ _ _ _ _ _ _ five c.end_line.ensures.puts
