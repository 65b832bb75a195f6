-- The ultimate pit (Lerchs and Grossmann 1965): the closed set of greatest worth (Picard 1976), among those that hold every forced
-- block and no barred one; of several the smallest, or the largest.
use Rattle.std.specs.Prelude.{◌≡◌, ℕ, ◌<◌, ℤ, ◌≤ℤ◌, Bool, false, List, IsTrue}
use Rattle.pit_model.specs.declared.direction.Direction.{Direction}
use Rattle.pit_model.specs.declared.direction.Direction.TheVariants.{Least, Greatest}
use Rattle.pit_model.specs.Graph.{AreSamePairs}
use Rattle.pit_model.specs.Mine.{Instance, IsClosed, instance_of, members, worth}

-- the blocks forced in, and those barred
pub record Fixed : Type 0 where
  pub forced : ℕ → Bool
  pub barred : ℕ → Bool

-- no block forced in, and none barred
abbrev pub no_blocks_fixed : Fixed
no_blocks_fixed = record { forced = λ u. false; barred = λ u. false }

-- a closed set that holds every forced block and no barred one
pub record IsAllowed (mine : Instance) (fixed : Fixed) (set : ℕ → Bool) : Type 0 where
  pub closed : IsClosed mine set
  pub holds_forced : (u : ℕ) → IsTrue (fixed.forced u) → IsTrue (set u)
  pub no_barred : (u : ℕ) → IsTrue (fixed.barred u) → set u ≡ false

-- toward Least a set lies within another, toward Greatest around it
abbrev pub LiesToward : Direction → ℕ → (ℕ → Bool) → (ℕ → Bool) → Type 0
LiesToward Least n set other = (u : ℕ) → u < n → IsTrue (set u) → IsTrue (other u)
LiesToward Greatest n set other = (u : ℕ) → u < n → IsTrue (other u) → IsTrue (set u)

-- the allowed set of greatest worth that lies within each other such set, or around it
pub record IsPit (direction : Direction) (mine : Instance) (fixed : Fixed) (set : ℕ → Bool) : Type 0 where
  pub allowed : IsAllowed mine fixed set
  pub best : (other : ℕ → Bool) → IsAllowed mine fixed other → worth mine other ≤ℤ worth mine set
  pub extreme : (other : ℕ → Bool) → IsAllowed mine fixed other → worth mine other ≡ worth mine set → LiesToward direction mine.blocks set other

-- the rising list of the blocks of the pit
pub record ListsPit (direction : Direction) (mine : Instance) (fixed : Fixed) (pit : List ℕ) : Type 0 where
  pub set : ℕ → Bool
  pub listed : pit ≡ members mine.blocks set
  pub is_pit : IsPit direction mine fixed set

-- the law: a pit does not depend on the order of the pairs
abbrev pub PitKnowsNoOrder : Type 0
PitKnowsNoOrder =
    (direction : Direction) (blocks : ℕ) (values : List ℤ) (ps qs : List (ℕ × ℕ)) (fixed : Fixed) (set : ℕ → Bool) → AreSamePairs ps qs
    → IsPit direction (instance_of blocks values ps) fixed set → IsPit direction (instance_of blocks values qs) fixed set
