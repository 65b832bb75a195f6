-- A sum of at most 2^22 small values fits.
use Rattle.std.proofs.Common.{◌≡◌, suc, ◌+◌, get_or, arith}
use Rattle.std.specs.Prelude.{◌+ℤ◌}
use Rattle.std.specs.Int.{w128}
use Rattle.std.proofs.lemmas.Int.{to_z-of_z}
use mir.Val.{SFits}
use Rattle.pit_model.specs.Sum.{total}
use Rattle.nesting.specs.Prices.{price_of}
use Rattle.nesting.proofs.PriceBounds.{sum_fits}
use Rattle.nesting.proofs.columns.Columns.worth.Goals as goal

pub overflow_add-sum : goal.overflow_add-sum
overflow_add-sum c =
    let fits = sum_fits c.args.self.now c.args.factor c.args.blocks.now c.loop-u.u-index c.law.ensures c.requires.factor c.requires.few c.requires.blocks c.loop-u-test.true in
    let small : SFits w128 c.value-sum.result = rw c.value-sum.ensures.value fits.0 in
    rw (to_z-of_z w128 c.value-sum.result small, c.value-sum.ensures.value, c.loop-u.invariant) fits.1

pub loop-u-preserved : goal.loop-u-preserved
loop-u-preserved c =
    let fits = sum_fits c.args.self.now c.args.factor c.args.blocks.now c.loop-u.u-index c.law.ensures c.requires.factor c.requires.few c.requires.blocks c.loop-u-test.true in
    let small : SFits w128 c.value-sum.result = rw c.value-sum.ensures.value fits.0 in
    let e : c.loop-u.u-index + 1 ≡ suc c.loop-u.u-index = omega arith in
    rw (to_z-of_z w128 c.value-sum.result small, c.value-sum.ensures.value, c.loop-u.invariant)
    (rw e (to_z-of_z w128 (total c.loop-u.u-index (λ i. price_of c.args.self.now c.args.factor (get_or c.args.blocks.now i 0)) +ℤ price_of c.args.self.now c.args.factor (get_or c.args.blocks.now c.loop-u.u-index 0)) fits.1))
