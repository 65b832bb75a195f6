-- What there is one of at most beside answers: the parts of a graph, the rest of each factor, and how a budget ends.
use Rattle.std.specs.Prelude.{◌≡◌, ℕ, ◌<◌, Bool, List, IsTrue}
use Rattle.pit_model.specs.declared.direction.Direction.{Direction}
use Rattle.pit_model.specs.Graph.{Graph}
use Rattle.pit_model.specs.Mine.{Instance}
use Rattle.pit_model.specs.Part.{IsClass}
use Rattle.pit_model.specs.Pit.{Fixed, no_blocks_fixed}
use Rattle.pit_model.specs.Direction.{IsSearched}
use Rattle.pit_model.specs.FirstRun.{HasMerger, HasNoMerger, first_run}
use Rattle.pit_model.specs.Deposit.{Deposit}
use Rattle.pit_model.specs.Shells.{IsRest}

-- the law: a block lies in one part: two parts with a common block have the same name and the same blocks
abbrev pub PartsAreOne : Type 0
PartsAreOne =
    (graph : Graph) (set other : ℕ → Bool) (root second u : ℕ) → IsClass graph set root → IsClass graph other second
    → u < graph.blocks → IsTrue (set u) → IsTrue (other u)
    → (root ≡ second) × ((v : ℕ) → v < graph.blocks → set v ≡ other v)

-- the law: the rest of a factor is one instance, toward each direction
abbrev pub ShellRestIsOne : Type 0
ShellRestIsOne =
    (direction : Direction) (deposit : Deposit) (factors : List ℕ) (k : ℕ) (rest other : Instance) → IsRest direction deposit factors k rest
    → IsRest direction deposit factors k other → rest ≡ other

-- the law: the instance that is searched for the pit of a mine is one, toward each direction
abbrev pub SearchedIsOne : Type 0
SearchedIsOne =
    (direction : Direction) (mine : Instance) (fixed : Fixed) (searched other : Instance) → IsSearched direction mine fixed searched
    → IsSearched direction mine fixed other → searched ≡ other

-- the law: by one thread a budget ends one way: where the first run of the instance that is searched has a merger arc left after so
-- many mergers, it is not so that none is left; toward each direction, of a mine with fixed blocks, and of a factor of a deposit
pub record BudgetEndsOneWay : Type 0 where
  pub of_mine :
      (direction : Direction) (mine : Instance) (fixed : Fixed) (searched other : Instance) (budget : ℕ) → IsSearched direction mine fixed searched
      → IsSearched direction mine fixed other → HasMerger searched (first_run searched budget) → HasNoMerger other (first_run other budget) → ⊥
  pub of_factor :
      (direction : Direction) (deposit : Deposit) (factors : List ℕ) (k : ℕ) (rest second searched other : Instance) (budget : ℕ)
      → IsRest direction deposit factors k rest → IsRest direction deposit factors k second → IsSearched direction rest no_blocks_fixed searched
      → IsSearched direction second no_blocks_fixed other → HasMerger searched (first_run searched budget) → HasNoMerger other (first_run other budget) → ⊥
