-- The limits of a scheduling problem, under which no sum leaves a signed number of 128 bits.
use Rattle.std.specs.Prelude.{◌≡◌, ℕ, ◌+◌, ◌*◌, ◌^◌, ◌<◌, ◌≤◌, ℤ, pos, neg_ℤ, ◌≤ℤ◌, List, length, get_or}
use Rattle.pit_model.specs.Graph.{IsGraph}
use Rattle.pit_model.specs.Size.{most_blocks, most_pairs}
use Rattle.scheduling.specs.declared.bound_error.BoundError.{BoundError}
use Rattle.scheduling.specs.declared.bound_error.BoundError.TheVariants.{NoMemory, PriceCount, PriceOutOfRange, ValueBeyond}
use Rattle.schedule_model.specs.declared.term.Term.{Term}
use Rattle.schedule_model.specs.declared.term.Effect.{Effect}
use Rattle.schedule_model.specs.declared.term.Effect.TheVariants.{Value, Use}
use Rattle.schedule_model.specs.Problem.{Problem, term_at}
use Rattle.scheduling.specs.First.{IsFirstWithout}

-- a number at most so far from 0
pub record IsWithinDistance (most : ℕ) (x : ℤ) : Type 0 where
  pub low : neg_ℤ (pos most) ≤ℤ x
  pub high : x ≤ℤ pos most

abbrev pub AreWithinDistance : ℕ → List ℤ → Type 0
AreWithinDistance most numbers = (i : ℕ) → i < length numbers → IsWithinDistance most (get_or numbers i (pos 0))

-- 10^10, 10^12 and 10^9 in millionths
abbrev pub most_column : ℕ
most_column = 10 ^ 16

abbrev pub most_capacity : ℕ
most_capacity = 10 ^ 18

abbrev pub most_price : ℕ
most_price = 10 ^ 15

abbrev pub most_discount : ℕ
most_discount = 10 ^ 6

abbrev pub UsesALimit : ℕ → Effect → Type 0
UsesALimit limits Value = Unit {0}
UsesALimit limits (Use r) = r < limits

-- a term of a problem with so many destinations, columns and limits
pub record IsTermOf (destinations columns limits : ℕ) (term : Term) : Type 0 where
  pub destination : term.destination < destinations
  pub column : term.column < columns
  pub effect : UsesALimit limits term.effect
  pub lag : term.lag ≤ 2 ^ 16

abbrev pub IsTerm : Problem → Term → Type 0
IsTerm problem term = IsTermOf problem.destinations problem.columns problem.limits term

pub record IsBoundedProblem (problem : Problem) : Type 0 where
  pub graph : IsGraph problem.blocks problem.pairs
  pub few_blocks : problem.blocks ≤ most_blocks
  pub few_nodes : problem.periods * problem.blocks ≤ most_blocks
  pub few_pairs : problem.periods * (length problem.pairs + problem.blocks) ≤ most_pairs
  pub some_periods : 0 < problem.periods
  pub few_periods : problem.periods ≤ 2 ^ 16
  pub some_destinations : 0 < problem.destinations
  pub few_destinations : problem.destinations ≤ 2 ^ 6
  pub few_columns : problem.columns ≤ 2 ^ 10
  pub few_limits : problem.limits ≤ 2 ^ 16
  pub few_capacities : problem.limits * problem.periods ≤ 2 ^ 16
  pub few_terms : length problem.terms ≤ 2 ^ 10
  pub amount_count : length problem.amounts ≡ problem.blocks * problem.columns
  pub discount_count : length problem.discounts ≡ problem.periods
  pub capacity_count : length problem.capacities ≡ problem.limits * problem.periods
  pub terms : (k : ℕ) → k < length problem.terms → IsTerm problem (term_at problem k)
  pub amounts : AreWithinDistance most_column problem.amounts
  pub discounts : AreWithinDistance most_discount problem.discounts
  pub capacities : AreWithinDistance most_capacity problem.capacities

-- not negative, and at most 10^9 in millionths
pub record IsPrice (price : ℤ) : Type 0 where
  pub least : pos 0 ≤ℤ price
  pub most : price ≤ℤ pos most_price

-- a price for each limit in each period, none negative
pub record ArePriceNumbers (problem : Problem) (prices : List ℤ) : Type 0 where
  pub count : length prices ≡ problem.limits * problem.periods
  pub least : (i : ℕ) → i < length prices → pos 0 ≤ℤ get_or prices i (pos 0)
  pub most : (i : ℕ) → i < length prices → get_or prices i (pos 0) ≤ℤ pos most_price

-- why numbers are no prices: not a price for each limit in each period, or one that is out of range, the first of them
abbrev pub RefusesPrices : ℕ → List ℤ → BoundError → Type 0
RefusesPrices count prices NoMemory = ⊥
RefusesPrices count prices PriceCount = length prices ≡ count → ⊥
RefusesPrices count prices (PriceOutOfRange i) = (i < length prices) × IsFirstWithout (λ j. IsPrice (get_or prices j (pos 0))) i
RefusesPrices count prices (ValueBeyond node) = ⊥
