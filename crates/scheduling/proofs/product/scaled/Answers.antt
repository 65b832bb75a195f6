-- A product of small numbers fits.
use Rattle.std.proofs.Common.{◌≡◌, ◌*◌, ◌^◌, ◌∙◌, ap, arith, to_z, of_z}
use Rattle.std.specs.Prelude.{ℤ, ◌*ℤ◌}
use Rattle.std.specs.Int.{w128, w64}
use Rattle.std.proofs.lemmas.Int.{ints, to_z-of_z}
use mir.Val.{SFits}
use Rattle.scheduling.specs.Limits.{most_discount}
use Rattle.scheduling.proofs.Small.{within_product}
use Rattle.scheduling.proofs.product.scaled.Goals as goal

pub returns : goal.returns
returns c =
    let x = c.args.moved in
    let y = c.args.discount in
    let small = within_product (2 ^ 22 * 10 ^ 22) most_discount x y c.requires.moved c.requires.discount in
    let low = small.low in
    let high = small.high in
    let fits : SFits w128 (x *ℤ y) = omega (arith, ints) in
    let wide : SFits w128 c.from.result = record { sfits = c.from.type_inv } in
    let same : to_z w128 (of_z w128 c.from.result) ≡ y = to_z-of_z w128 c.from.result wide ∙ c.from.ensures ∙ to_z-of_z w64 y c.ranges.discount in
    ap (λ (u : ℤ). to_z w128 (of_z w128 (u *ℤ to_z w128 (of_z w128 c.from.result)))) (to_z-of_z w128 x c.ranges.moved)
    ∙ ap (λ (v : ℤ). to_z w128 (of_z w128 (x *ℤ v))) same
    ∙ to_z-of_z w128 (x *ℤ y) fits
