-- What the lowest-label order keeps in range; no definition of the problem or the method stands on it.
use Rattle.std.specs.Prelude.{◌≡◌, ℕ, ◌^◌, ◌<◌, ◌≤◌, List, length, get_or}
use Rattle.pit_model.specs.Size.{most_blocks}

-- buckets for blocks by label
pub record Buckets : Type 0 where
  pub blocks : ℕ
  pub labels : ℕ

-- each of the numbers is below a bound
abbrev pub AreBelow : List ℕ → ℕ → Type 0
AreBelow xs bound = (i : ℕ) → i < length xs → get_or xs i 0 < bound

-- for each block a label with a count and a place in its row, and room for the blocks of a branch
pub record AreOrdered (labels places counts blocks : List ℕ) (found entered : ℕ) : Type 0 where
  pub few : length labels ≤ most_blocks
  pub two_labels : 2 ≤ length counts
  pub few_labels : length counts < 2 ^ 16
  pub place_count : length places ≡ length labels
  pub block_count : length blocks ≡ length labels
  pub found_few : found ≤ length labels
  pub entered_few : entered ≤ length labels
  pub labels_in_range : AreBelow labels (length counts)
  pub blocks_in_range : AreBelow blocks (length labels)
