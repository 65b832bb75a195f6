-- What a value falls by, its negation rises by.
use Rattle.std.proofs.Common.{◌≡◌, ◌∙◌, subst, sym, arith, rules}
use Rattle.std.specs.Prelude.{pos, ◌-ℤ◌}
use Rattle.std.specs.Int.{w128}
use Rattle.std.proofs.lemmas.Int.{ints, to_z-of_z}
use mir.Val.{SFits}
use Rattle.nesting.specs.Prices.{price_of}
use Rattle.nesting.specs.Parametric.{searched_value}
use Rattle.nesting.proofs.parametric_shells.gain.Goals as goal

pub returns-in-Greatest-clause-gain : goal.returns-in-Greatest-clause-gain
returns-in-Greatest-clause-gain c =
    let result = c.price_rise-in-Greatest.result in
    let from = price_of c.args.columns.now c.args.step.from c.args.block in
    let to = price_of c.args.columns.now c.args.step.to c.args.block in
    let rise = c.price_rise-in-Greatest.ensures.rise in
    let fits : SFits w128 result = search rules in
    let same : result ≡ (pos 0 -ℤ to) -ℤ (pos 0 -ℤ from) = omega (arith, ints) in
    to_z-of_z w128 result fits ∙ subst (λ d. result ≡ searched_value d to -ℤ searched_value d from) (sym c.in-Greatest.is) same
