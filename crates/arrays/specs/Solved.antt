-- What arrays hold when a solve has written into them.
use Rattle.std.specs.Prelude.{◌≡◌, ℕ, ◌<◌, ℤ, Bool, List, length, get_or, if◌then◌else◌}
use Rattle.pit_model.specs.Mine.{Instance, worth}
use Rattle.pit_model.specs.Pit.{IsPit}
use Rattle.arrays.specs.Fixing.{fixed_by, toward}
use Rattle.arrays.specs.Encoded.{EncodesMine}

-- a 1 for each block of the set, and a 0 for each other
pub record AreMarks (blocks : ℕ) (set : ℕ → Bool) (marks : List ℕ) : Type 0 where
  pub count : length marks ≡ blocks
  pub each : (u : ℕ) → u < blocks → get_or marks u 0 ≡ (if set u then 1 else 0)

-- the marks are those of the pit of the mine that the arrays encode, with the blocks that the numbers fix and toward the
-- direction that is asked for; and the amount is its worth
pub record MarkPit (values : List ℤ) (starts needs numbers : List ℕ) (greatest : Bool) (marks : List ℕ) (amount : ℤ) : Type 0 where
  pub mine : Instance
  pub encoded : EncodesMine values starts needs mine
  pub set : ℕ → Bool
  pub marks_are : AreMarks mine.blocks set marks
  pub is_pit : IsPit (toward greatest) mine (fixed_by numbers) set
  pub worth_is : amount ≡ worth mine set
