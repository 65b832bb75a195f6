-- The limits that a model keeps which was read.
use Rattle.std.specs.Prelude.{◌≡◌, ℕ, ℤ, pos, neg_ℤ, ◌≤ℤ◌, ◌^◌, ◌<◌, ◌≤◌, List, length, get_or}
use Rattle.std.specs.List.{All}
use Rattle.pit_model.specs.Size.{most_blocks}
use Rattle.minelib_reader.specs.Number.{IsBounded}

-- each value, in millionths, is within 10^18 of 0
abbrev pub AreSmall : List ℤ → Type 0
AreSmall values = All (IsBounded (10 ^ 18)) values

-- at most so many blocks, and a small value for each, so that low and high hold, as an instance of the problem wants them
pub record IsSmallModel (n : ℕ) (values : List ℤ) : Type 0 where
  pub few : n ≤ most_blocks
  pub count : length values ≡ n
  pub small : AreSmall values
  pub low : (u : ℕ) → u < n → neg_ℤ (pos (10 ^ 23)) ≤ℤ get_or values u (pos 0)
  pub high : (u : ℕ) → u < n → get_or values u (pos 0) ≤ℤ pos (10 ^ 23)
