-- What one unit of an amount is worth at prices of limits: so much of each term, for blocks that are mined in a period.
use Rattle.std.specs.Prelude.{◌≡◌, ℕ, ◌+◌, ◌<◌, ◌==◌, ℤ, pos, neg_ℤ, ◌*ℤ◌, List, length, get_or}
use Rattle.pit_model.specs.Sum.{total, when}
use Rattle.schedule_model.specs.declared.term.Effect.{Effect}
use Rattle.schedule_model.specs.declared.term.Effect.TheVariants.{Value, Use}
use Rattle.schedule_model.specs.Problem.{Problem, amount_in, discount, term_at}
use Rattle.schedule_model.specs.Bound.{price}
use Rattle.scheduling.specs.Limits.{AreWithinDistance, most_price}

abbrev pub weight : Problem → List ℤ → ℕ → Effect → ℕ → ℤ
weight problem prices t Value lag = discount problem (t + lag)
weight problem prices t (Use r) lag = neg_ℤ (price problem prices r (t + lag))

-- the weight of each term
pub record AreWeights (problem : Problem) (prices : List ℤ) (t : ℕ) (weights : List ℤ) : Type 0 where
  pub count : length weights ≡ length problem.terms
  pub each : (k : ℕ) → k < length problem.terms → get_or weights k (pos 0) ≡ weight problem prices t (term_at problem k).effect (term_at problem k).lag

-- any weights, within the limits
pub record AreSmallWeights (problem : Problem) (weights : List ℤ) : Type 0 where
  pub count : length weights ≡ length problem.terms
  pub small : AreWithinDistance most_price weights

-- the weighted amount of a block by one term, if that is of the destination; and all those at a destination
abbrev pub part_of_gain : Problem → List ℤ → ℕ → ℕ → ℕ → ℤ
part_of_gain problem weights b d k = when ((term_at problem k).destination == d) (amount_in problem b (term_at problem k).column *ℤ get_or weights k (pos 0))

abbrev pub weighted : Problem → List ℤ → ℕ → ℕ → ℤ
weighted problem weights b d = total (length problem.terms) (part_of_gain problem weights b d)

-- the price of one capacity, where prices and capacities stand limit by limit
abbrev pub part_of_price : Problem → List ℤ → ℕ → ℤ
part_of_price problem prices i = get_or prices i (pos 0) *ℤ get_or problem.capacities i (pos 0)
