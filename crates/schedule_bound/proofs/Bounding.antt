-- The bound fits, and is that of the problem.
use Rattle.std.proofs.Common.{◌≡◌, ℕ, ◌*◌, ◌^◌, List, length, sym, ap, ◌∙◌, subst, arith, to_z, of_z}
use Rattle.std.specs.Prelude.{ℤ, pos, ◌+ℤ◌, ◌*ℤ◌, Bool}
use Rattle.std.specs.Int.{w128}
use Rattle.std.proofs.lemmas.Int.{ints, to_z-of_z}
use Rattle.std.proofs.Math.ListN.{get_or-eq_default}
use mir.Val.{SFits}
use Rattle.pit_model.specs.Sum.{total, when}
use Rattle.pit_model.specs.Limits.{IsInstance}
use Rattle.pit_model.specs.Mine.{Instance, value, worth}
use Rattle.schedule_model.specs.Problem.{Problem, capacity}
use Rattle.schedule_model.specs.Bound.{IsLagrangianBound, over_limits, price, unit}
use Rattle.scheduling.specs.Limits.{ArePriceNumbers, IsWithinDistance, IsBoundedProblem}
use Rattle.scheduling.specs.Weights.{part_of_price}
use Rattle.scheduling.proofs.Small.{within_more, within_total, within_when}
use Rattle.scheduling.proofs.Priced.{price_by_limit, prices_within}
use Rattle.schedule_bound.specs.Worth.{AreNodesAt, IsWorthOfPit, gain_at}

abbrev pub most_worth : ℕ
most_worth = 2 ^ 22 * 10 ^ 23

worth_within : (nodes : Instance) (set : ℕ → Bool) → IsInstance nodes → IsWithinDistance most_worth (worth nodes set)
worth_within nodes set is =
    let few = is.limits.few_blocks in
    within_more (nodes.blocks * 10 ^ 23) most_worth (worth nodes set) (omega arith)
    (within_total (10 ^ 23) nodes.blocks (λ u. when (set u) (value nodes u)) (λ u h.
    within_when (10 ^ 23) (set u) (value nodes u) (record { low = is.limits.low u h; high = is.limits.high u h })))

price_within : (problem : Problem) (prices : List ℤ) → IsBoundedProblem problem → ArePriceNumbers problem prices → IsWithinDistance (2 ^ 16 * 10 ^ 33) (over_limits problem (λ r s. price problem prices r s *ℤ capacity problem r s))
price_within problem prices limits are =
    subst (IsWithinDistance (2 ^ 16 * 10 ^ 33)) (ap (λ n. total n (part_of_price problem prices)) are.count ∙ price_by_limit problem prices)
    (prices_within problem prices limits are (length prices) (omega arith))

module _ (nodes : Instance) (amount : ℤ) (is : IsInstance nodes) (worth_is : IsWorthOfPit nodes amount) where
  pub small : IsWithinDistance most_worth amount
  small = subst (IsWithinDistance most_worth) (sym worth_is.is) (worth_within nodes worth_is.pit is)

  held_worth : to_z w128 (of_z w128 amount) ≡ amount
  held_worth = let low = small.low in let high = small.high in let fits : SFits w128 amount = omega (arith, ints) in to_z-of_z w128 amount fits

  scaled_is : pos unit *ℤ to_z w128 (of_z w128 amount) ≡ pos unit *ℤ amount
  scaled_is = ap (λ x. pos unit *ℤ x) held_worth

  scaled_plain : SFits w128 (pos unit *ℤ amount)
  scaled_plain = let low = small.low in let high = small.high in omega (arith, ints)

  pub scaled_fits : SFits w128 (pos unit *ℤ to_z w128 (of_z w128 amount))
  scaled_fits = subst (SFits w128) (sym scaled_is) scaled_plain

  pub held_scaled : to_z w128 (of_z w128 (pos unit *ℤ to_z w128 (of_z w128 amount))) ≡ pos unit *ℤ amount
  held_scaled = to_z-of_z w128 (pos unit *ℤ to_z w128 (of_z w128 amount)) scaled_fits ∙ scaled_is

module _ (problem : Problem) (prices : List ℤ) (nodes : Instance) (amount paid : ℤ) (limits : IsBoundedProblem problem) (are : ArePriceNumbers problem prices) (is : IsInstance nodes)
    (at : AreNodesAt problem prices nodes) (worth_is : IsWorthOfPit nodes amount) (paid_is : paid ≡ over_limits problem (λ r s. price problem prices r s *ℤ capacity problem r s)) where
  paid_small : IsWithinDistance (2 ^ 16 * 10 ^ 33) paid
  paid_small = subst (IsWithinDistance (2 ^ 16 * 10 ^ 33)) (sym paid_is) (price_within problem prices limits are)

  held_paid : to_z w128 (of_z w128 paid) ≡ paid
  held_paid = let low = paid_small.low in let high = paid_small.high in let fits : SFits w128 paid = omega (arith, ints) in to_z-of_z w128 paid fits

  sum_is : to_z w128 (of_z w128 (pos unit *ℤ to_z w128 (of_z w128 amount))) +ℤ to_z w128 (of_z w128 paid) ≡ pos unit *ℤ amount +ℤ paid
  sum_is = ap (λ x. x +ℤ to_z w128 (of_z w128 paid)) (held_scaled nodes amount is worth_is) ∙ ap (λ y. pos unit *ℤ amount +ℤ y) held_paid

  sum_plain : SFits w128 (pos unit *ℤ amount +ℤ paid)
  sum_plain =
      let whole = small nodes amount is worth_is in
      let low = whole.low in
      let high = whole.high in
      let paid_low = paid_small.low in
      let paid_high = paid_small.high in
      omega (arith, ints)

  pub sum_fits : SFits w128 (to_z w128 (of_z w128 (pos unit *ℤ to_z w128 (of_z w128 amount))) +ℤ to_z w128 (of_z w128 paid))
  sum_fits = subst (SFits w128) (sym sum_is) sum_plain

  bound_plain : IsLagrangianBound problem prices (pos unit *ℤ amount +ℤ paid)
  bound_plain = record {
    best = gain_at problem at.gains;
    best_is = at.best.best;
    none_after = λ b. let count = at.best.count in get_or-eq_default at.gains (pos 0) (omega arith);
    nodes = nodes;
    expanded = at.expanded;
    pit = worth_is.pit;
    is_pit = worth_is.is_pit;
    is = ap (λ x. pos unit *ℤ x +ℤ paid) worth_is.is ∙ ap (λ y. pos unit *ℤ worth nodes worth_is.pit +ℤ y) paid_is;
  }

  pub bound_is : IsLagrangianBound problem prices (to_z w128 (of_z w128 (to_z w128 (of_z w128 (pos unit *ℤ to_z w128 (of_z w128 amount))) +ℤ to_z w128 (of_z w128 paid))))
  bound_is = subst (IsLagrangianBound problem prices) (sym (to_z-of_z w128 (to_z w128 (of_z w128 (pos unit *ℤ to_z w128 (of_z w128 amount))) +ℤ to_z w128 (of_z w128 paid)) sum_fits ∙ sum_is)) bound_plain
