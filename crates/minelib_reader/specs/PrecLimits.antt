-- What the pairs keep that were read for n blocks.
use Rattle.std.specs.Prelude.{ℕ, ◌≢◌, ◌<◌, ◌≤◌, List, length}
use Rattle.pit_model.specs.Size.{most_pairs}
use Rattle.pit_model.specs.Graph.{AreInRange, AreApart, first_of, second_of}

-- no block needs itself
abbrev pub AreOfTwo : List (ℕ × ℕ) → Type 0
AreOfTwo pairs = (k : ℕ) → k < length pairs → first_of pairs k ≢ second_of pairs k

-- at most 2^26 pairs of two blocks below n, none of them twice
pub record ArePrecedences (n : ℕ) (pairs : List (ℕ × ℕ)) : Type 0 where
  pub few : length pairs ≤ most_pairs
  pub in_range : AreInRange pairs n
  pub apart : AreApart pairs
  pub of_two : AreOfTwo pairs
