-- The mine that is searched at a factor toward a direction, and one whose values rise from turn to turn outside the pit before,
-- while those of that pit stay: it has the pit of the whole factor.
use Rattle.std.specs.Prelude.{◌≡◌, ℕ, ◌<◌, ◌≤◌, ℤ, pos, ◌-ℤ◌, true, false, not, Bool, List, length, get_or, map, reverse}
use Rattle.std.specs.List.{range_with_len}
use Rattle.pit_model.specs.Sum.{total}
use Rattle.pit_model.specs.Graph.{AreSamePairs}
use Rattle.pit_model.specs.Fixed.{transposed}
use Rattle.pit_model.specs.Pit.{IsPit, no_blocks_fixed}
use Rattle.pit_model.specs.Mine.{Instance, instance_of, members, value}
use Rattle.pit_model.specs.Deposit.{Deposit, mine_at, value_at}
use Rattle.pit_model.specs.Direction.{IsDual}
use Rattle.pit_model.specs.declared.direction.Direction.{Direction}
use Rattle.pit_model.specs.declared.direction.Direction.TheVariants.{Least, Greatest}
use Rattle.pit_model.specs.declared.shell.Shell.{Shell}
use Rattle.nesting.specs.declared.parametric_shells.ParametricState.{ParametricState}
use Rattle.nesting.specs.Prices.{Prices, price_of}
use Rattle.nesting.specs.Grown.{marked}

-- a list in the order of the turns: factors rise toward the least pits, and fall toward the greatest
abbrev pub in_turns : {X : Type 0} → Direction → List X → List X
in_turns Least xs = xs
in_turns Greatest xs = reverse xs

-- one factor comes after another in that order, or is the same
abbrev pub Follows : Direction → ℕ → ℕ → Type 0
Follows Least from to = from ≤ to
Follows Greatest from to = to ≤ from

-- a value in the mine that is searched: that of the mine, or in its dual the negated one
abbrev pub searched_value : Direction → ℤ → ℤ
searched_value Least v = v
searched_value Greatest v = pos 0 -ℤ v

-- the pit toward a direction, by the pit of the mine that is searched
abbrev pub set_toward : Direction → (ℕ → Bool) → (ℕ → Bool)
set_toward Least set = set
set_toward Greatest set = λ u. not (set u)

-- the mine that is searched for the pit at a factor: the mine at that factor, or its dual
abbrev pub IsSearchedAt : Direction → Deposit → ℕ → Instance → Type 0
IsSearchedAt Least deposit factor mine = mine ≡ mine_at deposit factor
IsSearchedAt Greatest deposit factor mine = IsDual (mine_at deposit factor) mine

-- its pairs: those of the deposit, or these transposed
abbrev pub ArePairsToward : Direction → Deposit → List (ℕ × ℕ) → Type 0
ArePairsToward Least deposit pairs = pairs ≡ deposit.pairs
ArePairsToward Greatest deposit pairs = AreSamePairs (transposed deposit.pairs) pairs

-- the mine with such pairs and the values that are searched at a factor
abbrev pub searched_mine : Direction → Deposit → ℕ → List (ℕ × ℕ) → Instance
searched_mine direction deposit factor pairs =
    instance_of deposit.blocks (map (λ u. searched_value direction (value_at deposit factor u)) (range_with_len 0 deposit.blocks)) pairs

-- of the first blocks, those outside the marks have their values at a factor; all other values are those of another mine
pub record HasIncreased (direction : Direction) (prices : Prices) (marks : List Bool) (factor count : ℕ) (before mine : Instance) : Type 0 where
  pub blocks : mine.blocks ≡ before.blocks
  pub pairs : mine.pairs ≡ before.pairs
  pub size : length mine.values ≡ length before.values
  pub risen : (u : ℕ) → u < count → marked marks u ≡ false → value mine u ≡ searched_value direction (price_of prices factor u)
  pub kept : (u : ℕ) → marked marks u ≡ true → value mine u ≡ value before u
  pub later : (u : ℕ) → count ≤ u → value mine u ≡ value before u

-- a mine that has the same pit as the one that is searched at a factor, and outside it the values of that one; the pit is marked
pub record IsHeld (direction : Direction) (deposit : Deposit) (factor : ℕ) (marks : List Bool) (mine : Instance) : Type 0 where
  pub set : ℕ → Bool
  pub size : length marks ≡ deposit.blocks
  pub marks_are : (u : ℕ) → u < deposit.blocks → marked marks u ≡ set u
  pub blocks : mine.blocks ≡ deposit.blocks
  pub pairs : ArePairsToward direction deposit mine.pairs
  pub outside : (u : ℕ) → u < deposit.blocks → set u ≡ false → value mine u ≡ searched_value direction (value_at deposit factor u)
  pub here : IsPit Least mine no_blocks_fixed set
  pub there : IsPit Least (searched_mine direction deposit factor mine.pairs) no_blocks_fixed set

-- the same mine with its pit marked, and the shell that lists the pit toward the direction, with its worth at a factor
pub record IsSolvedAt (direction : Direction) (prices : Prices) (factor : ℕ) (mine : Instance) (risen : ParametricState) (shell : Shell) : Type 0 where
  pub set : ℕ → Bool
  pub is_pit : IsPit Least mine no_blocks_fixed set
  pub same : risen.mine ≡ mine
  pub size : length risen.marks.items ≡ mine.blocks
  pub marks_are : (u : ℕ) → u < mine.blocks → marked risen.marks.items u ≡ set u
  pub listed : shell.pit.items ≡ members mine.blocks (set_toward direction set)
  pub factor_is : shell.factor ≡ factor
  pub worth_is : shell.worth ≡ total (length shell.pit.items) (λ i. price_of prices factor (get_or shell.pit.items i 0))
