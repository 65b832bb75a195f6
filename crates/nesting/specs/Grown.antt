-- Shells that grow from factor to factor: which blocks are taken so far, and what is left.
use Rattle.std.specs.Prelude.{◌≡◌, ◌⊎◌, ◌<◌, ℕ, false, Bool, List, length, get_or}
use Rattle.faults.specs.declared.fault.Fault.{Fault}
use Rattle.faults.specs.Refused.{no_memory}
use Rattle.pit_model.specs.declared.direction.Direction.{Direction}
use Rattle.pit_model.specs.Pit.{no_blocks_fixed}
use Rattle.pit_model.specs.Graph.{Graph}
use Rattle.pit_model.specs.Mine.{Instance}
use Rattle.pit_model.specs.Deposit.{Deposit, mine_on}
use Rattle.pit_model.specs.Shells.{IsShellBefore, IsOutside, IsRest}
use Rattle.nesting.specs.Prices.{Prices, deposit_of}
use Rattle.pit_search.specs.Searched.{OfSearched}

-- the set of the blocks that are marked
abbrev pub marked : List Bool → ℕ → Bool
marked marks u = get_or marks u false

-- the marked blocks are the shell before that of the factor with number k, and the rest is what lies outside
pub record IsGrown (direction : Direction) (deposit : Deposit) (factors : List ℕ) (k : ℕ) (marks : List Bool) (blocks : List ℕ) (part : Graph) : Type 0 where
  pub size : length marks ≡ deposit.blocks
  pub before : IsShellBefore direction deposit factors k (marked marks)
  pub outside : IsOutside deposit (marked marks) blocks part

-- the instance at a factor on what is left
abbrev pub rest_at : Prices → ℕ → List ℕ → Graph → Instance
rest_at prices factor blocks part = mine_on (deposit_of prices part) factor blocks part

-- the solve of the rest of the factor with number k ends: this holds of the instance that is searched for it
abbrev pub EndsRest : (Instance → Type 0) → Direction → Deposit → List ℕ → ℕ → Type 0
EndsRest Ends direction deposit factors k = (rest : Instance) × IsRest direction deposit factors k rest × OfSearched direction rest no_blocks_fixed Ends

-- and so does that of each factor's rest
abbrev pub EndsEachRest : (Instance → Type 0) → Direction → Deposit → List ℕ → Type 0
EndsEachRest Ends direction deposit factors = (k : ℕ) → k < length factors → EndsRest Ends direction deposit factors k

-- why there are no shells: no memory; or the instance that is searched for some factor's rest was refused
abbrev pub RefusesRests : (Instance → Fault → Type 0) → Direction → Deposit → List ℕ → Fault → Type 0
RefusesRests Refuses direction deposit factors fault =
    (fault ≡ no_memory)
    ⊎ ((k : ℕ) × (k < length factors) × ((rest : Instance) × IsRest direction deposit factors k rest × OfSearched direction rest no_blocks_fixed (λ searched. Refuses searched fault)))

-- no budget ends a solve: it is refused for want of memory alone
abbrev pub IsUnlimited : (Instance → Fault → Type 0) → Type 0
IsUnlimited Refuses = (mine : Instance) (fault : Fault) → Refuses mine fault → fault ≡ no_memory
