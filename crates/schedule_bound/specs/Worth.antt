-- The nodes at prices of limits, the worth of their pit, and why there is no bound.
use Rattle.std.specs.Prelude.{◌≡◌, ℕ, ◌*◌, ◌<◌, ℤ, pos, Bool, List, length, get_or}
use Rattle.pit_model.specs.declared.direction.Direction.TheVariants.{Least}
use Rattle.pit_model.specs.Pit.{IsPit, no_blocks_fixed}
use Rattle.pit_model.specs.Mine.{Instance, worth}
use Rattle.schedule_model.specs.Problem.{Problem}
use Rattle.schedule_model.specs.Bound.{IsTimeExpanded, node}
use Rattle.scheduling.specs.declared.bound_error.BoundError.{BoundError}
use Rattle.scheduling.specs.declared.bound_error.BoundError.TheVariants.{NoMemory, PriceCount, PriceOutOfRange, ValueBeyond}
use Rattle.scheduling.specs.Gains.{AreBest}
use Rattle.scheduling.specs.First.{IsFirstWithout}
use Rattle.scheduling.specs.Limits.{ArePriceNumbers, IsPrice}
use Rattle.scheduling.specs.Nodes.{IsBeyond, IsInValueRange}

-- the best gain of a block in a period, of gains that are listed node by node
abbrev pub gain_at : Problem → List ℤ → ℕ → ℕ → ℤ
gain_at problem gains b t = get_or gains (node problem b t) (pos 0)

pub record AreNodesAt (problem : Problem) (prices : List ℤ) (nodes : Instance) : Type 0 where
  pub gains : List ℤ
  pub best : AreBest problem prices gains
  pub expanded : IsTimeExpanded problem (gain_at problem gains) nodes
  pub within : (i : ℕ) → i < length gains → IsInValueRange gains problem.blocks i

pub record IsWorthOfPit (nodes : Instance) (amount : ℤ) : Type 0 where
  pub pit : ℕ → Bool
  pub is_pit : IsPit Least nodes no_blocks_fixed pit
  pub is : amount ≡ worth nodes pit

-- there are values of all nodes
abbrev pub HasNodes : Problem → List ℤ → Type 0
HasNodes problem prices = (nodes : Instance) × AreNodesAt problem prices nodes

-- no memory; not a price for each limit in each period; the first price or the first value of a node that is out of range
abbrev pub RefusesBound : Problem → List ℤ → BoundError → Type 0
RefusesBound problem prices NoMemory = Unit {0}
RefusesBound problem prices PriceCount = length prices ≡ problem.limits * problem.periods → ⊥
RefusesBound problem prices (PriceOutOfRange i) = (i < length prices) × IsFirstWithout (λ j. IsPrice (get_or prices j (pos 0))) i
RefusesBound problem prices (ValueBeyond node) = ArePriceNumbers problem prices × ((gains : List ℤ) × AreBest problem prices gains × IsBeyond gains problem.blocks node)
