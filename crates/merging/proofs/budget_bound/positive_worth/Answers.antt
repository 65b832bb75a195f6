-- Sums of values within the limits fit.
use Rattle.std.proofs.Common.{◌≡◌, ℕ, suc, ◌+◌, ◌<◌, arith, ap, sym, ◌∙◌}
use Rattle.std.specs.Prelude.{ℤ, ◌+ℤ◌}
use Rattle.std.proofs.lemmas.Int.{ints, to_z-of_z}
use mir.Val.{SFits, to_z, of_z}
use mir.Syntax.{w128}
use Rattle.pit_model.specs.Graph.{Graph}
use Rattle.pit_model.specs.Mine.{value}
use Rattle.pit_model.specs.Rank.{positive_part}
use Rattle.pit_model.specs.Sum.{total}
use Rattle.merging.proofs.budget_bound.positive_worth.Goals as goal

pub loop-block-preserved : goal.loop-block-preserved
loop-block-preserved c =
    let mine = c.args.instance.now in
    let block = c.loop-block.block in
    let part_of : ℕ → ℤ = λ u. positive_part (value mine u) in
    let count_is : c.n-block-end.result ≡ mine.blocks = c.n-block-end.ensures ∙ ap (λ (g : Graph). g.blocks) c.deref.ensures ∙ c.graph.ensures.blocks in
    let inside : block < mine.blocks = omega (arith, c.loop-block-test.true, count_is) in
    let value_is = c.value.ensures in
    let low = c.law.ensures.limits.low block inside in
    let high = c.law.ensures.limits.high block inside in
    let small_value : SFits w128 c.value.result = omega (arith, ints, value_is, low, high) in
    let value_kept = to_z-of_z w128 c.value.result small_value in
    let least = c.positive_part-worth.ensures.least in
    let most = c.positive_part-worth.ensures.most (omega (arith, ints, value_kept, value_is, high)) in
    let part_is : c.positive_part-worth.result ≡ part_of block = c.positive_part-worth.ensures.part ∙ ap positive_part (value_kept ∙ value_is) in
    let small_part : SFits w128 c.positive_part-worth.result = omega (arith, ints, least, most) in
    let part_kept = to_z-of_z w128 c.positive_part-worth.result small_part in
    let few = c.law.ensures.limits.few_blocks in
    let least_so_far = c.loop-block.invariant.least in
    let most_so_far = c.loop-block.invariant.most in
    let small_sum : SFits w128 (to_z w128 c.loop-block.worth-bits +ℤ to_z w128 (of_z w128 c.positive_part-worth.result)) =
    omega (arith, ints, least_so_far, most_so_far, part_kept, least, most, inside, few) in
    let sum_kept = to_z-of_z w128 (to_z w128 c.loop-block.worth-bits +ℤ to_z w128 (of_z w128 c.positive_part-worth.result)) small_sum in
    let one_more : block + 1 ≡ suc block = omega arith in
    record {
      sum = sum_kept ∙ ap (λ x. x +ℤ to_z w128 (of_z w128 c.positive_part-worth.result)) c.loop-block.invariant.sum
          ∙ ap (λ x. total block part_of +ℤ x) (part_kept ∙ part_is) ∙ ap (λ n. total n part_of) (sym one_more);
      least = omega (arith, ints, sum_kept, least_so_far, part_kept, least);
      most = omega (arith, ints, sum_kept, most_so_far, part_kept, most);
    }
