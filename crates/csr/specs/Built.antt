-- Rows that are built: the closed ones share patterns, and the open one keeps its targets.
use Rattle.std.specs.Prelude.{◌≡◌, ℕ, ◌≤◌, List, ◌++◌, length, get_or, take, drop}
use Rattle.csr.specs.Shared.{shared_targets, AreShared}

-- the targets of closed rows by their differences, which are the first numbers, and those of the open row, which are the others
unfoldable pub built_targets : List ℕ → List ℕ → List ℕ → ℕ → List ℕ
built_targets offsets patterns numbers used = shared_targets offsets patterns (take used numbers) ++ drop used numbers

-- closed rows share the first numbers, and there are no more of these than arcs
pub record IsBuilt (offsets patterns numbers : List ℕ) (used : ℕ) (recent : List ℕ) : Type 0 where
  pub shared : AreShared offsets patterns (take used numbers)
  pub within : used ≤ length numbers
  pub few : used ≤ get_or offsets (length patterns) 0
  pub slots : length recent ≡ 1024
