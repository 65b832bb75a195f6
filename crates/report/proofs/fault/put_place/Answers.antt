-- A line above 0 has its word and its number.
use Rattle.std.proofs.Common.{◌≡◌, ◌-◌, ◌++◌, ◌∙◌, suc, ap, sym, arith, ℕ}
use Rattle.std.specs.Prelude.{decimal}
use Rattle.faults.specs.Words.{place_word}
use Rattle.report.specs.FaultText.{place_text}
use Rattle.report.proofs.PutLemmas.{puts_then, puts_as}
use Rattle.report.proofs.fault.put_place.Goals as goal

pub returns-else-line-eq0-clause-puts : goal.returns-else-line-eq0-clause-puts
unfolding place_text
returns-else-line-eq0-clause-puts g c =
    let above : suc (c.args.line - 1) ≡ c.args.line = omega arith in
    let word = puts_as (c.as_bytes.ensures.value ∙ c.place_word.ensures.text) c.put-else-line-eq0.ensures.puts in
    let text : place_word c.args.source ++ decimal c.args.line ≡ place_text c.args.source c.args.line =
    sym (ap (λ (n : ℕ). place_word c.args.source ++ decimal n) above) ∙ ap (λ (n : ℕ). place_text c.args.source n) above in
    puts_as text (puts_then _ _ _ _ _ _ _ _ word c.put_number.ensures.puts)
