-- The rank fits its type: no value is above 10^23, and there are at most 2^22 blocks.
use Rattle.std.proofs.Common.{◌≡◌, ℕ, zero, suc, ◌+◌, ◌*◌, ◌^◌, ◌<◌, ◌≤◌, true, false, arith, ⊎_elim, rules}
use Rattle.std.specs.Prelude.{ℤ, pos, negsuc, ◌+ℤ◌, ◌*ℤ◌, ◌≤ℤ◌, int_lt, FitsSigned}
use Rattle.std.proofs.lemmas.Bool.{cases_Bool}
use Rattle.std.proofs.Math.Nat.{mul-le-mul_right, mul-le-mul_left}
use Rattle.std.proofs.lemmas.Int.{ints, to_z-of_z}
use mir.Val.{to_z, of_z}
use mir.Syntax.{w128}
use Rattle.pit_model.specs.Sum.{total}
use Rattle.pit_model.specs.Mine.{Instance, value}
use Rattle.pit_model.specs.Flow.{excess}
use Rattle.pit_model.specs.Tree.{Tree, flow, IsNormalised}
use Rattle.pit_model.specs.Limits.{IsInstance, most_worth}
use Rattle.pit_model.specs.Rank.{positive_part, positive_excess, positive_worth, rank}
use Rattle.pit_model.proofs.Simple.{instance_is_simple}
use Rattle.pit_model.proofs.Bound.{flows_stay_within_limits}
use Rattle.pit_model.proofs.RankBound.{positive_excess_most}
use Rattle.pit_model.proofs.RankFalls.{positive_excess_least, weak_count_least, weak_count_most}

part_most : (x : ℤ) (most : ℕ) → x ≤ℤ pos most → positive_part x ≤ℤ pos most
part_most x most below =
    ⊎_elim
    (λ (t : int_lt (pos 0) x ≡ true). rw t below)
    (λ (t : int_lt (pos 0) x ≡ false). rw t (omega (arith, ints)))
    (cases_Bool (int_lt (pos 0) x))

total-most : (n most : ℕ) (f : ℕ → ℤ) → ((u : ℕ) → u < n → f u ≤ℤ pos most) → total n f ≤ℤ pos (n * most)
total-most zero most f below = omega (arith, ints)
total-most (suc n) most f below =
    let rest = total-most n most f (λ u l. below u (omega arith)) in
    let last = below n (omega arith) in
    let e : suc n * most ≡ n * most + most = omega arith in
    omega (arith, ints)

product_most : (a : ℤ) (n most limit : ℕ) → pos 0 ≤ℤ a → a ≤ℤ pos most → n ≤ limit → (pos 0 ≤ℤ (a *ℤ pos n)) × ((a *ℤ pos n) ≤ℤ pos (most * limit))
product_most (pos x) n most limit least below l =
    let x_most : x ≤ most = omega (arith, ints) in
    let left : x * n ≤ most * n = mul-le-mul_right n x_most in
    let right : most * n ≤ most * limit = mul-le-mul_left most l in
    (omega (arith, ints), omega (arith, ints))
product_most (negsuc x) n most limit least below l = absurd (omega (arith, ints))

pub one_more : (x : ℤ) (n : ℕ) → x ≡ pos n → n ≤ 2 ^ 22 → to_z w128 (of_z w128 (to_z w128 (of_z w128 x) +ℤ pos 1)) ≡ pos (suc n)
one_more x n e few = rw e (omega (arith, ints))

module _ (mine : Instance) (tree : Tree) (good : IsInstance mine) (normalised : IsNormalised mine tree) where
  worth_most : positive_worth mine ≤ℤ pos most_worth
  worth_most =
      let sum = total-most mine.blocks (10 ^ 23) (λ u. positive_part (value mine u)) (λ u l. part_most (value mine u) (10 ^ 23) (good.limits.high u l)) in
      let few = good.limits.few_blocks in
      omega (arith, ints)

  product_within : (pos 0 ≤ℤ (positive_excess mine tree *ℤ pos (suc mine.blocks))) × ((positive_excess mine tree *ℤ pos (suc mine.blocks)) ≤ℤ pos (most_worth * (2 ^ 22 + 1)))
  product_within =
      let few = good.limits.few_blocks in
      let most = positive_excess_most mine tree (instance_is_simple mine good) normalised in
      let worth = worth_most in
      product_most (positive_excess mine tree) (suc mine.blocks) most_worth (2 ^ 22 + 1) (positive_excess_least mine tree) (omega (arith, ints)) (omega arith)

  pub product_fits : FitsSigned w128 (positive_excess mine tree *ℤ pos (suc mine.blocks))
  product_fits =
      let low = product_within.0 in
      let high = product_within.1 in
      search (rules, ints)

  pub rank_fits : FitsSigned w128 (rank mine tree)
  rank_fits =
      let low = product_within.0 in
      let high = product_within.1 in
      let few = good.limits.few_blocks in
      let some = weak_count_least mine tree in
      let most = weak_count_most mine tree in
      search (rules, ints)

  pub product_cast : to_z w128 (of_z w128 (positive_excess mine tree *ℤ pos (suc mine.blocks))) ≡ positive_excess mine tree *ℤ pos (suc mine.blocks)
  product_cast = to_z-of_z w128 (positive_excess mine tree *ℤ pos (suc mine.blocks)) product_fits

  pub rank_cast : to_z w128 (of_z w128 (rank mine tree)) ≡ rank mine tree
  rank_cast = to_z-of_z w128 (rank mine tree) rank_fits

  pub excess_most : (u : ℕ) → u < mine.blocks → excess mine (flow tree) u ≤ℤ pos most_worth
  excess_most u l = ((flows_stay_within_limits mine tree good normalised).1 u l).1
