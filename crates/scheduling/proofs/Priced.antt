-- The price of capacities: small, and a sum over limits and periods.
use Rattle.std.proofs.Common.{◌≡◌, ℕ, ◌+◌, ◌*◌, ◌^◌, ◌<◌, ◌≤◌, List, length, get_or, sym, ap, ◌∙◌, arith}
use Rattle.std.specs.Prelude.{ℤ, pos, ◌*ℤ◌}
use Rattle.std.proofs.lemmas.Int.{ints}
use Rattle.std.proofs.lemmas.Bool.{lt-ltb}
use Rattle.pit_model.specs.Sum.{total, when}
use Rattle.pit_model.proofs.Sums.{total-same}
use Rattle.schedule_model.specs.Problem.{Problem, capacity, of_limit}
use Rattle.schedule_model.specs.Bound.{over_limits, price}
use Rattle.schedule_model.proofs.Sums.{total-rows}
use Rattle.scheduling.specs.Limits.{ArePriceNumbers, IsWithinDistance, IsBoundedProblem, most_capacity, most_price}
use Rattle.scheduling.specs.Weights.{part_of_price}
use Rattle.scheduling.proofs.Small.{within_more, within_product, within_total}

of_limit_is : (problem : Problem) (numbers : List ℤ) (r s : ℕ) → s < problem.periods → of_limit problem numbers r s ≡ get_or numbers (r * problem.periods + s) (pos 0)
of_limit_is problem numbers r s h = ap (λ b. when b (get_or numbers (r * problem.periods + s) (pos 0))) (lt-ltb s problem.periods h)

pub price_by_limit : (problem : Problem) (prices : List ℤ) → total (problem.limits * problem.periods) (part_of_price problem prices) ≡ over_limits problem (λ r s. price problem prices r s *ℤ capacity problem r s)
price_by_limit problem prices =
    total-rows problem.limits problem.periods (part_of_price problem prices)
    ∙ total-same problem.limits (λ r. total problem.periods (λ s. part_of_price problem prices (r * problem.periods + s))) (λ r. total problem.periods (λ s. price problem prices r s *ℤ capacity problem r s)) (λ r hr.
    total-same problem.periods (λ s. part_of_price problem prices (r * problem.periods + s)) (λ s. price problem prices r s *ℤ capacity problem r s) (λ s hs.
    ap (λ x. x *ℤ get_or problem.capacities (r * problem.periods + s) (pos 0)) (sym (of_limit_is problem prices r s hs))
    ∙ ap (λ x. price problem prices r s *ℤ x) (sym (of_limit_is problem problem.capacities r s hs))))

module _ (problem : Problem) (prices : List ℤ) (limits : IsBoundedProblem problem) (are : ArePriceNumbers problem prices) where
  pub part_within : (i : ℕ) → i < length prices → IsWithinDistance (10 ^ 33) (part_of_price problem prices i)
  part_within i h =
      let least = are.least i h in
      let most = are.most i h in
      let count = are.count in
      let capacities = limits.capacity_count in
      within_product most_price most_capacity (get_or prices i (pos 0)) (get_or problem.capacities i (pos 0))
      (record { low = omega (arith, ints); high = omega (arith, ints) })
      (limits.capacities i (omega arith))

  pub prices_within : (count : ℕ) → count ≤ length prices → IsWithinDistance (2 ^ 16 * 10 ^ 33) (total count (part_of_price problem prices))
  prices_within count few =
      let all = are.count in
      let most = limits.few_capacities in
      within_more (count * 10 ^ 33) (2 ^ 16 * 10 ^ 33) (total count (part_of_price problem prices)) (omega arith)
      (within_total (10 ^ 33) count (part_of_price problem prices) (λ i h. part_within i (omega arith)))
