-- The pit of a mine with fixed blocks: by the instance that is searched for it.
use Rattle.std.specs.Global.{Vec}
use Rattle.std.specs.Prelude.{◌≡◌, ◌⊎◌, ℕ, ℤ, Bool, List, Option, None, Some}
use Rattle.faults.specs.Refused.{no_memory}
use Rattle.faults.specs.declared.fault.Fault.{Fault}
use Rattle.pit_model.specs.declared.direction.Direction.{Direction}
use Rattle.pit_model.specs.declared.direction.Direction.TheVariants.{Least, Greatest}
use Rattle.pit_model.specs.Mine.{Instance, members, worth}
use Rattle.pit_model.specs.Pit.{Fixed, ListsPit, no_blocks_fixed}
use Rattle.pit_model.specs.Fixed.{graph_of_mine}
use Rattle.pit_model.specs.Limits.{IsInstance}
use Rattle.pit_model.specs.Direction.{IsDual, IsSearched}
use Rattle.pit_model.specs.Graph.{IsGraph}
use Rattle.mine_graph.specs.FixedBlocks.{FixedBlocks, IsFixedOf, no_lists}
use Rattle.merging.specs.Reduced.{IsRestIn}
use Rattle.pit_search.specs.declared.found_pit.FoundPit.{FoundPit}
use Rattle.pit_search.specs.declared.searched.Searched.{Searched}

-- the pit toward a direction, with its worth
pub record IsFound (direction : Direction) (mine : Instance) (fixed : Fixed) (found : FoundPit) : Type 0 where
  pub listed : ListsPit direction mine fixed found.blocks.items
  pub worth_is : (set : ℕ → Bool) → found.blocks.items ≡ members mine.blocks set → found.worth ≡ worth mine set

-- the rest of a mine outside its fixed blocks: the mine itself where none is fixed; else the instance on these open blocks
abbrev pub IsOpenPart : Instance → FixedBlocks → Option (Vec ℕ) → Instance → Type 0
IsOpenPart mine fixed None rest = (fixed.lists ≡ no_lists) × (rest ≡ mine)
IsOpenPart mine fixed (Some blocks) rest = (fixed.lists ≡ no_lists → ⊥) × IsRestIn mine fixed (record { blocks = blocks; mine = rest })

-- the instance that is searched for the pit of a rest
abbrev pub IsToward : Direction → Instance → Instance → Type 0
IsToward Least rest searched = searched ≡ rest
IsToward Greatest rest searched = IsDual rest searched × IsGraph searched.blocks searched.pairs

-- the values of a mine: these, or those of an instance that has the same
abbrev pub own_values : Option (List ℤ) → Instance → List ℤ
own_values None instance = instance.values
own_values (Some values) instance = values

-- an instance in memory is searched for the pit of a mine, and what stands beside it leads back
pub record IsSearchOf (direction : Direction) (mine : Instance) (fixed : FixedBlocks) (searched : Searched) : Type 0 where
  pub toward_is : searched.direction ≡ direction
  pub rest : Instance
  pub open_part : IsOpenPart mine fixed searched.blocks rest
  pub faced : IsToward direction rest searched.instance
  pub values_are : own_values searched.values searched.instance ≡ mine.values
  pub counted : searched.n ≡ mine.blocks

-- of a mine of n blocks with these fixed blocks, whose rest is on these open ones, the list is the pit of the rest
pub record ListsRestPit (n : ℕ) (fixed : FixedBlocks) (blocks : Option (Vec ℕ)) (pit : List ℕ) : Type 0 where
  pub mine : Instance
  pub counted : n ≡ mine.blocks
  pub fixed_blocks : IsFixedOf (graph_of_mine mine) fixed
  pub rest : Instance
  pub open_part : IsOpenPart mine fixed blocks rest
  pub direction : Direction
  pub listed : ListsPit direction rest no_blocks_fixed pit

-- an instance in memory is searched for the pit of some mine with these fixed blocks
pub record IsSearch (fixed : FixedBlocks) (searched : Searched) : Type 0 where
  pub mine : Instance
  pub instance : IsInstance mine
  pub fixed_blocks : IsFixedOf (graph_of_mine mine) fixed
  pub direction : Direction
  pub of_mine : IsSearchOf direction mine fixed searched

-- this holds of the instance that is searched
abbrev pub OfSearched : Direction → Instance → Fixed → (Instance → Type 0) → Type 0
OfSearched direction mine fixed Holds = (searched : Instance) × IsSearched direction mine fixed searched × Holds searched

-- why no pit is found: no memory; or the instance that is searched was refused
abbrev pub RefusesFind : (Instance → Fault → Type 0) → Direction → Instance → Fixed → Fault → Type 0
RefusesFind Refuses direction mine fixed fault = (fault ≡ no_memory) ⊎ OfSearched direction mine fixed (λ searched. Refuses searched fault)
