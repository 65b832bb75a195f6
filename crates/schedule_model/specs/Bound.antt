-- The Lagrangian bound of a scheduling problem (Geoffrion 1974): with a price for each limit in each period, no schedule is worth more.
use Rattle.std.specs.Prelude.{◌≡◌, ℕ, suc, ◌+◌, ◌*◌, ◌^◌, ◌<◌, ℤ, pos, ◌+ℤ◌, ◌-ℤ◌, ◌*ℤ◌, ◌≤ℤ◌, ◌<ℤ◌, ◌⊎◌, Bool, List, length, get_or}
use Rattle.pit_model.specs.Sum.{total}
use Rattle.pit_model.specs.Graph.{AreInRange, first_of, second_of}
use Rattle.pit_model.specs.declared.direction.Direction.TheVariants.{Least}
use Rattle.pit_model.specs.Pit.{IsPit, no_blocks_fixed}
use Rattle.pit_model.specs.Mine.{Instance, value, worth}
use Rattle.schedule_model.specs.Problem.{Problem, capacity, gain, of_limit, used}
use Rattle.schedule_model.specs.Schedule.{IsScheduleOf, schedule_value}

-- a sum over all limits and periods
abbrev pub over_limits : Problem → (ℕ → ℕ → ℤ) → ℤ
over_limits problem f = total problem.limits (λ r. total problem.periods (λ s. f r s))

-- the price of limit r in period s; none is negative
abbrev pub price : Problem → List ℤ → ℕ → ℕ → ℤ
price problem prices r s = of_limit problem prices r s

abbrev pub AreLimitPrices : Problem → List ℤ → Type 0
AreLimitPrices problem prices = (r s : ℕ) → r < problem.limits → s < problem.periods → pos 0 ≤ℤ price problem prices r s

-- the gain of a whole block less the price of what it uses
abbrev pub priced_gain : Problem → List ℤ → ℕ → ℕ → ℕ → ℤ
priced_gain problem prices b t d = gain problem b t d -ℤ over_limits problem (λ r s. price problem prices r s *ℤ used problem b t d r s)

-- the greatest of these over all destinations
pub record IsBest (problem : Problem) (prices : List ℤ) (b t : ℕ) (best : ℤ) : Type 0 where
  pub reached : (d : ℕ) × (d < problem.destinations) × (priced_gain problem prices b t d ≡ best)
  pub greatest : (d : ℕ) → d < problem.destinations → priced_gain problem prices b t d ≤ℤ best

-- "block b is mined by the end of period t", as a number
abbrev pub node : Problem → ℕ → ℕ → ℕ
node problem b t = t * problem.blocks + b

-- two nodes of which the one needs the other: a block that is mined by a period is mined by the next one, and so is each block that
-- it needs by the same one
abbrev pub IsNextPeriod : Problem → ℕ × ℕ → Type 0
IsNextPeriod problem pair =
    (b : ℕ) × (t : ℕ) × (b < problem.blocks) × (suc t < problem.periods) × (pair.0 ≡ node problem b t) × (pair.1 ≡ node problem b (suc t))

abbrev pub IsNeededBlock : Problem → ℕ × ℕ → Type 0
IsNeededBlock problem pair =
    (k : ℕ) × (t : ℕ) × (k < length problem.pairs) × (t < problem.periods)
    × (pair.0 ≡ node problem (first_of problem.pairs k) t) × (pair.1 ≡ node problem (second_of problem.pairs k) t)

-- the pairs of nodes
pub record AreNodePairs (problem : Problem) (pairs : List (ℕ × ℕ)) : Type 0 where
  pub only : (k : ℕ) → k < length pairs → IsNextPeriod problem (get_or pairs k (0, 0)) ⊎ IsNeededBlock problem (get_or pairs k (0, 0))
  pub all : (pair : ℕ × ℕ) → IsNextPeriod problem pair ⊎ IsNeededBlock problem pair → (k : ℕ) × (k < length pairs) × (get_or pairs k (0, 0) ≡ pair)

-- the unit of the values of nodes: a millionth of money, where gains are in units of 10^-12
abbrev pub unit : ℕ
unit = 10 ^ 6

-- x units of 10^-12, in millionths, rounded up
pub record IsRoundedUp (x rounded : ℤ) : Type 0 where
  pub least : x ≤ℤ (pos unit *ℤ rounded)
  pub most : (pos unit *ℤ rounded) <ℤ (x +ℤ pos unit)

-- the instance of the ultimate pit problem over all nodes, at the best priced gains of each block and period: mining a block by a period
-- and not only by the next one brings the difference of the two
pub record IsTimeExpanded (problem : Problem) (best : ℕ → ℕ → ℤ) (nodes : Instance) : Type 0 where
  pub count : nodes.blocks ≡ problem.periods * problem.blocks
  pub pairs : AreNodePairs problem nodes.pairs
  pub values : (b t : ℕ) → b < problem.blocks → t < problem.periods → IsRoundedUp (best b t -ℤ best b (suc t)) (value nodes (node problem b t))

-- the bound, in units of 10^-12: the worth of the pit of the nodes, and the price of all capacities
pub record IsLagrangianBound (problem : Problem) (prices : List ℤ) (bound : ℤ) : Type 0 where
  pub best : ℕ → ℕ → ℤ
  pub best_is : (b t : ℕ) → b < problem.blocks → t < problem.periods → IsBest problem prices b t (best b t)
  pub none_after : (b : ℕ) → best b problem.periods ≡ pos 0
  pub nodes : Instance
  pub expanded : IsTimeExpanded problem best nodes
  pub pit : ℕ → Bool
  pub is_pit : IsPit Least nodes no_blocks_fixed pit
  pub is : bound ≡ pos unit *ℤ worth nodes pit +ℤ over_limits problem (λ r s. price problem prices r s *ℤ capacity problem r s)

-- the law: no schedule is worth more than the bound, for any common denominator of its shares
abbrev pub ScheduleIsBounded : Type 0
ScheduleIsBounded =
    (problem : Problem) (prices : List ℤ) (bound : ℤ) (whole : ℕ) (shares : List ℕ) → AreInRange problem.pairs problem.blocks → AreLimitPrices problem prices
    → IsLagrangianBound problem prices bound → IsScheduleOf whole problem shares → schedule_value problem shares ≤ℤ (pos whole *ℤ bound)

-- the law: a problem has one bound at given prices
abbrev pub BoundIsOne : Type 0
BoundIsOne =
    (problem : Problem) (prices : List ℤ) (bound other : ℤ) → AreInRange problem.pairs problem.blocks → IsLagrangianBound problem prices bound → IsLagrangianBound problem prices other
    → bound ≡ other
