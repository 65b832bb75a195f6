-- Marking the blocks of a list of numbers, one by one.
use Rattle.std.proofs.Common.{◌≡◌, ℕ, ◌<◌, Bool, true, List, get_or, length}
use Rattle.std.specs.Prelude.{◌⊎◌}
use Rattle.nesting.specs.Grown.{marked}

-- the block of the number at a place
abbrev pub block_at : List ℕ → List ℕ → ℕ → ℕ
block_at blocks found j = get_or blocks (get_or found j 0) 0

-- the blocks of the first k numbers are marked beside those that were
pub record IsMarking (old new : List Bool) (blocks found : List ℕ) (k : ℕ) : Type 0 where
  pub size : length new ≡ length old
  pub keeps : (u : ℕ) → marked old u ≡ true → marked new u ≡ true
  pub adds : (j : ℕ) → j < k → marked new (block_at blocks found j) ≡ true
  pub only : (u : ℕ) → marked new u ≡ true → (marked old u ≡ true) ⊎ ((j : ℕ) × (j < k) × (block_at blocks found j ≡ u))
