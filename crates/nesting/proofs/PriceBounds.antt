-- A price fits, and so does all that is computed on the way to it.
use Rattle.std.proofs.Common.{◌≡◌, ℕ, ◌<◌, ◌≤◌, refl, List, get_or, length, ◌*◌, ◌^◌, sym, ap, subst, ◌∙◌, arith, to_z, of_z}
use Rattle.std.specs.Prelude.{ℤ, pos, neg_ℤ, negsuc, ◌+ℤ◌, ◌-ℤ◌, ◌*ℤ◌, ◌≤ℤ◌}
use Rattle.std.specs.List.{All}
use Rattle.std.proofs.lemmas.List.Elements.{All-get_or}
use Rattle.std.specs.Int.{w128}
use Rattle.std.proofs.lemmas.Int.{ints, to_z-of_z}
use Rattle.std.proofs.lemmas.Nat.{mul-le}
use mir.Val.{SFits}
use Rattle.pit_model.specs.Deposit.{priced}
use Rattle.pit_model.specs.Sum.{total}
use Rattle.mine_graph.proofs.Worth.{total-small}
use Rattle.nesting.specs.Prices.{Prices, price_of, ArePrices}

-- at most so far from 0 as a value may be
abbrev pub IsSmall : ℤ → Type 0
IsSmall v = (neg_ℤ (pos (10 ^ 23)) ≤ℤ v) × (v ≤ℤ pos (10 ^ 23))

-- as the machine holds it
abbrev held : ℤ → ℤ
held x = to_z w128 (of_z w128 x)

yields : (f : ℕ) (r : ℤ) → f ≤ 100000 → pos 0 ≤ℤ r → r ≤ℤ pos (10 ^ 18) → (pos 0 ≤ℤ (pos f *ℤ r)) × ((pos f *ℤ r) ≤ℤ pos (10 ^ 23))
yields f (pos x) few least most =
    let below : x ≤ 10 ^ 18 = omega (arith, ints) in
    let product : f * x ≤ 100000 * 10 ^ 18 = mul-le f x 100000 (10 ^ 18) few below in
    (omega (arith, ints), omega (arith, ints))
yields f (negsuc x) few least most = absurd (omega (arith, ints))

module _ (f : ℕ) (x r c : ℤ) (is : x ≡ pos f) (few : f ≤ 100000) (r_least : pos 0 ≤ℤ r) (r_most : r ≤ℤ pos (10 ^ 18)) (c_least : pos 0 ≤ℤ c) (c_most : c ≤ℤ pos (10 ^ 18)) where
  yielded : held (held x *ℤ held r) ≡ pos f *ℤ r
  yielded =
      let some = yields f r few r_least r_most in
      let low = some.0 in
      let high = some.1 in
      ap (λ y. held (held y *ℤ held r)) is
      ∙ ap (λ y. held (y *ℤ held r)) (to_z-of_z w128 (pos f) (omega (arith, ints)))
      ∙ ap (λ y. held (pos f *ℤ y)) (to_z-of_z w128 r (omega (arith, ints)))
      ∙ to_z-of_z w128 (pos f *ℤ r) (omega (arith, ints))

  spent : held (pos 1000 *ℤ held c) ≡ pos 1000 *ℤ c
  spent = ap (λ y. held (pos 1000 *ℤ y)) (to_z-of_z w128 c (omega (arith, ints))) ∙ to_z-of_z w128 (pos 1000 *ℤ c) (omega (arith, ints))

  pub computed : held (held x *ℤ held r) -ℤ held (pos 1000 *ℤ held c) ≡ priced f r c
  computed = ap (λ y. y -ℤ held (pos 1000 *ℤ held c)) yielded ∙ ap (λ y. pos f *ℤ r -ℤ y) spent

  pub price_small : IsSmall (priced f r c)
  price_small =
      let some = yields f r few r_least r_most in
      let low = some.0 in
      let high = some.1 in
      (omega (arith, ints), omega (arith, ints))

  pub price_fits : SFits w128 (priced f r c)
  price_fits = let small = price_small in let low = small.0 in let high = small.1 in omega (arith, ints)

  pub difference_fits : SFits w128 (held (held x *ℤ held r) -ℤ held (pos 1000 *ℤ held c))
  difference_fits = subst (λ y. SFits w128 y) (sym computed) price_fits

  pub price_held : held (held (held x *ℤ held r) -ℤ held (pos 1000 *ℤ held c)) ≡ priced f r c
  price_held = ap held computed ∙ to_z-of_z w128 (priced f r c) price_fits

pub each_small : (prices : Prices) (factor u : ℕ) → ArePrices prices.revenues prices.costs → factor ≤ 100000 → u < length prices.revenues → IsSmall (price_of prices factor u)
each_small prices factor u are few inside =
    price_small factor (pos factor) (get_or prices.revenues u (pos 0)) (get_or prices.costs u (pos 0)) refl few
    (are.revenue.least u inside) (are.revenue.most u inside) (are.cost.least u inside) (are.cost.most u inside)

-- one block more, where at most 2^22 are summed
pub sum_fits : (prices : Prices) (factor : ℕ) (blocks : List ℕ) (i : ℕ) → ArePrices prices.revenues prices.costs → factor ≤ 100000 → length blocks ≤ 2 ^ 22 → All (λ u. u < length prices.revenues) blocks → i < length blocks
    → SFits w128 (price_of prices factor (get_or blocks i 0)) × SFits w128 (total i (λ j. price_of prices factor (get_or blocks j 0)) +ℤ price_of prices factor (get_or blocks i 0))
sum_fits prices factor blocks i are few most inside l =
    let small : (j : ℕ) → j < length blocks → IsSmall (price_of prices factor (get_or blocks j 0)) = λ j m. each_small prices factor (get_or blocks j 0) are few (All-get_or (λ u. u < length prices.revenues) blocks j 0 m inside) in
    let rest = total-small i (λ j. price_of prices factor (get_or blocks j 0)) (λ j m. small j (omega arith)) in
    let lower = rest.0 in
    let upper = rest.1 in
    let here = small i l in
    let low = here.0 in
    let high = here.1 in
    (omega (arith, ints), omega (arith, ints))
