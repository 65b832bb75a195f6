use Rattle.std.proofs.Common.{arith, refl, ℕ, zero, suc, ℤ, pos, [], ◌∷◌, get_or, ◌<◌, ◌^◌, ◌≤ℤ◌}
use Rattle.pit_model.specs.Deposit.{IsAmount}
use Rattle.pit_model.proofs.examples.limits_of_prices.Goals as goal

of_none : IsAmount 0 []
of_none = record { count = refl; least = λ u l. absurd (omega (arith, l)); most = λ u l. absurd (omega (arith, l)) }

least_of_one : (x : ℤ) → pos 0 ≤ℤ x → (u : ℕ) → u < 1 → pos 0 ≤ℤ get_or (x ∷ []) u (pos 0)
least_of_one x least zero l = least
least_of_one x least (suc u) l = absurd (omega (arith, l))

most_of_one : (x : ℤ) → x ≤ℤ pos (10 ^ 18) → (u : ℕ) → u < 1 → get_or (x ∷ []) u (pos 0) ≤ℤ pos (10 ^ 18)
most_of_one x most zero l = most
most_of_one x most (suc u) l = absurd (omega (arith, l))

of_one : (x : ℤ) → pos 0 ≤ℤ x → x ≤ℤ pos (10 ^ 18) → IsAmount 1 (x ∷ [])
of_one x least most = record { count = refl; least = least_of_one x least; most = most_of_one x most }

pub returns : goal.returns
returns c =
    let zero_amount : IsAmount 1 (pos 0 ∷ []) = of_one (pos 0) (omega arith) (omega arith) in
    let greatest : IsAmount 1 (pos (10 ^ 18) ∷ []) = of_one (pos (10 ^ 18)) (omega arith) (omega arith) in
    record {
      no_blocks = record { few = omega arith; revenues = of_none; costs = of_none };
      nothing_gained = record { few = omega arith; revenues = zero_amount; costs = zero_amount };
      greatest_of_both = record { few = omega arith; revenues = greatest; costs = greatest };
      no_greater_revenue = λ is. omega (arith, is.revenues.most 0 (omega arith));
      no_greater_cost = λ is. omega (arith, is.costs.most 0 (omega arith));
      no_negative_revenue = λ is. omega (arith, is.revenues.least 0 (omega arith));
      no_negative_cost = λ is. omega (arith, is.costs.least 0 (omega arith));
      no_missing_cost = λ is. omega (arith, is.costs.count);
      most_blocks = λ revenues costs are_revenues are_costs. record { few = omega arith; revenues = are_revenues; costs = are_costs };
      no_more_blocks = λ blocks revenues costs more is. omega (arith, is.few, more);
    }
