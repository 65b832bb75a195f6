-- Marks on blocks, and on runs of 64 blocks each.
use Rattle.std.specs.Prelude.{◌≡◌, ℕ, ◌+◌, ◌*◌, ◌<◌, ◌≤◌, Bool, true, false, List, length, get_or}
use Rattle.pit_model.specs.Size.{most_blocks}

-- run r holds block u
abbrev pub IsInRun : ℕ → ℕ → Type 0
IsInRun u r = (64 * r ≤ u) × (u < 64 * r + 64)

-- each marked block lies in a marked run
pub record AreInRuns (blocks runs : List Bool) : Type 0 where
  pub few_blocks : length blocks ≤ most_blocks
  pub few_runs : length runs ≤ most_blocks
  pub room : length blocks ≤ 64 * length runs
  pub marked : (u r : ℕ) → IsInRun u r → get_or blocks u false ≡ true → get_or runs r false ≡ true
