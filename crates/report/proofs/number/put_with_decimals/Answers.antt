-- The sign, the whole part, the point and the digits, one after the other.
use Rattle.std.proofs.Common.{◌≡◌, ◌∙◌, ◌/◌, ◌++◌, ◌^◌, ℕ, List, length, to_z, of_z, ap, arith}
use Rattle.std.specs.Int.{w128}
use Rattle.std.specs.Prelude.{unsigned_abs, decimal, codes}
use Rattle.std.proofs.lemmas.Int.{to_z-of_z}
use Rattle.minelib_reader.proofs.Numbers.{pow_ten}
use Rattle.pit_model.specs.PitText.{sign_text, last_digits, with_decimals}
use Rattle.report.proofs.PutLemmas.{puts_then, puts_as}
use Rattle.report.proofs.number.put_with_decimals.Goals as goal

pub nonzero_div-size : goal.nonzero_div-size
nonzero_div-size g c = let least = pow_ten 0 (length c.args.digits.now) (omega arith) in omega (arith, c.requires.unit)

pub returns-clause-puts : goal.returns-clause-puts
unfolding with_decimals
returns-clause-puts g c =
    let places : ℕ = length c.args.digits.now in
    let e : to_z w128 (of_z w128 c.args.number) ≡ c.args.number = to_z-of_z w128 c.args.number c.ranges.number in
    let sign = puts_as (c.sign_of.ensures.text ∙ ap sign_text e) c.put.ensures.puts in
    let two = puts_then _ _ _ _ _ _ _ _ sign c.put_number.ensures.puts in
    let three = puts_then _ _ _ _ _ _ _ _ two c.put-2.ensures.puts in
    let four = puts_then _ _ _ _ _ _ _ _ three c.put-3.ensures.puts in
    let size : c.unsigned_abs-size.result ≡ unsigned_abs c.args.number = c.unsigned_abs-size.ensures.value ∙ ap unsigned_abs e in
    let text = λ (n unit : ℕ) (digits : List ℕ). sign_text c.args.number ++ decimal (n / unit) ++ codes "." ++ digits in
    puts_as (ap (text c.unsigned_abs-size.result c.args.unit) c.write_last_digits.ensures
    ∙ ap (λ (unit : ℕ). text c.unsigned_abs-size.result unit (last_digits places c.unsigned_abs-size.result)) c.requires.unit
    ∙ ap (λ (n : ℕ). text n (10 ^ places) (last_digits places n)) size) four
