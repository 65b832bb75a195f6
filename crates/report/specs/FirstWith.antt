-- The first of the shells that have a block.
use Rattle.std.specs.Prelude.{◌≡◌, ◌<◌, ◌≤◌, ℕ, true, false, List, length, get_or}
use Rattle.pit_model.specs.declared.shell.Shell.{Shell}
use Rattle.pit_model.specs.ShellText.{has_block}

-- the shells before a place do not have the block, and those from another place on do
pub record AreParted (shells : List Shell) (block low high : ℕ) : Type 0 where
  pub order : low ≤ high
  pub inside : high ≤ length shells
  pub without : (i : ℕ) (d : Shell) → i < low → has_block block (get_or shells i d) ≡ false
  pub with : (i : ℕ) (d : Shell) → high ≤ i → i < length shells → has_block block (get_or shells i d) ≡ true

abbrev pub IsFirstWith : List Shell → ℕ → ℕ → Type 0
IsFirstWith shells block place = AreParted shells block place place
