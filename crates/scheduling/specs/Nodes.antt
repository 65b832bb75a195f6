-- The values of the nodes of the time-expanded instance.
use Rattle.std.specs.Prelude.{◌≡◌, ℕ, ◌+◌, ◌*◌, ◌^◌, ◌<◌, ℤ, pos, ◌-ℤ◌, List, length, get_or}
use Rattle.schedule_model.specs.Bound.{IsRoundedUp}
use Rattle.scheduling.specs.declared.bound_error.BoundError.{BoundError}
use Rattle.scheduling.specs.declared.bound_error.BoundError.TheVariants.{NoMemory, PriceCount, PriceOutOfRange, ValueBeyond}
use Rattle.scheduling.specs.Gains.{most_gain}
use Rattle.scheduling.specs.Limits.{IsWithinDistance}

abbrev pub most_step : ℕ
most_step = 2 * most_gain

-- the gain of a node less that of the same block in the next period
abbrev pub step_of : List ℤ → ℕ → ℕ → ℤ
step_of gains blocks i = get_or gains i (pos 0) -ℤ get_or gains (i + blocks) (pos 0)

-- the greatest value of a node
abbrev pub most_value : ℕ
most_value = 10 ^ 23

-- the values of the first nodes, so many of them
pub record AreNodeValues (gains : List ℤ) (blocks count : ℕ) (values : List ℤ) : Type 0 where
  pub count_is : length values ≡ count
  pub rounded : (i : ℕ) → i < count → IsRoundedUp (step_of gains blocks i) (get_or values i (pos 0))
  pub within : (i : ℕ) → i < count → IsWithinDistance most_value (get_or values i (pos 0))

-- the value of a node is within its range
pub record IsInValueRange (gains : List ℤ) (blocks node : ℕ) : Type 0 where
  pub rounded : ℤ
  pub rounded_is : IsRoundedUp (step_of gains blocks node) rounded
  pub within : IsWithinDistance most_value rounded

-- the first node whose value is out of range
pub record IsBeyond (gains : List ℤ) (blocks node : ℕ) : Type 0 where
  pub node_in : node < length gains
  pub rounded : ℤ
  pub rounded_is : IsRoundedUp (step_of gains blocks node) rounded
  pub beyond : IsWithinDistance most_value rounded → ⊥
  pub before : (i : ℕ) → i < node → IsInValueRange gains blocks i

-- why there are no values: no memory, or the first node whose value is out of range
abbrev pub RefusesValues : List ℤ → ℕ → BoundError → Type 0
RefusesValues gains blocks NoMemory = Unit {0}
RefusesValues gains blocks PriceCount = ⊥
RefusesValues gains blocks (PriceOutOfRange i) = ⊥
RefusesValues gains blocks (ValueBeyond node) = IsBeyond gains blocks node
