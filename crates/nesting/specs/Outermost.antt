-- The outermost shell as a deposit of its own, and its shells by the numbers of the whole.
use Rattle.std.specs.Prelude.{◌≡◌, ℕ, ◌<◌, ℤ, pos, true, Bool, List, length, get_or, map}
use Rattle.pit_model.specs.declared.shell.Shell.{Shell}
use Rattle.pit_model.specs.Graph.{Graph}
use Rattle.pit_model.specs.Mine.{members}
use Rattle.pit_model.specs.declared.direction.Direction.{Direction}
use Rattle.pit_model.specs.Pit.{IsPit, no_blocks_fixed}
use Rattle.pit_model.specs.Part.{IsPart}
use Rattle.pit_model.specs.Deposit.{mine_at}
use Rattle.nesting.specs.Prices.{Prices, deposit_of}

-- the amounts of some blocks
abbrev pub amounts_of : List ℤ → List ℕ → List ℤ
amounts_of amounts blocks = map (λ u. get_or amounts u (pos 0)) blocks

-- the part of a deposit on the pit toward a direction at a factor
pub record IsOutermost (direction : Direction) (prices : Prices) (graph : Graph) (factor : ℕ) (blocks : List ℕ) (inner : Prices) (part : Graph) : Type 0 where
  pub set : ℕ → Bool
  pub is_pit : IsPit direction (mine_at (deposit_of prices graph) factor) no_blocks_fixed set
  pub is_part : IsPart graph set blocks part
  pub revenues : inner.revenues ≡ amounts_of prices.revenues blocks
  pub costs : inner.costs ≡ amounts_of prices.costs blocks

-- a block of the whole, by a place in a list of places
abbrev pub block_of : List ℕ → List ℕ → ℕ → ℕ
block_of blocks pit j = get_or blocks (get_or pit j 0) 0

-- the blocks of a set that stand at these places, and no others, rising
pub record IsLifted (n : ℕ) (blocks inner outer : List ℕ) : Type 0 where
  pub set : ℕ → Bool
  pub listed : outer ≡ members n set
  pub adds : (j : ℕ) → j < length inner → set (block_of blocks inner j) ≡ true
  pub only : (u : ℕ) → set u ≡ true → (j : ℕ) × (j < length inner) × (block_of blocks inner j ≡ u)

-- the same shell by the numbers of the whole
pub record IsLiftedShell (n : ℕ) (blocks : List ℕ) (inner outer : Shell) : Type 0 where
  pub factor : outer.factor ≡ inner.factor
  pub worth : outer.worth ≡ inner.worth
  pub pit : IsLifted n blocks inner.pit.items outer.pit.items

-- the first shells
pub record AreLifted (n : ℕ) (blocks : List ℕ) (inner outer : List Shell) (count : ℕ) : Type 0 where
  pub size : length outer ≡ count
  pub each : (i : ℕ) (d : Shell) → i < count → IsLiftedShell n blocks (get_or inner i d) (get_or outer i d)

-- the blocks of a shell are places in a list
abbrev pub IsPlacedIn : List ℕ → Shell → Type 0
IsPlacedIn blocks shell = (j : ℕ) → j < length shell.pit.items → get_or shell.pit.items j 0 < length blocks
