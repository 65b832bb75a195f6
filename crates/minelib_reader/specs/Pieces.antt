-- A text that is read piece by piece, each of whole lines but the last.
use Rattle.std.specs.Prelude.{◌≡◌, ℕ, Bool, ◌+◌, ◌<◌, false, IsTrue, List, [], ◌∷◌, ◌++◌, length}
use Rattle.minelib_reader.specs.Device.{Progress}

-- a line ends at the text's end
abbrev pub EndsLine : List ℕ → Type 0
EndsLine text = (front : List ℕ) × (text ≡ front ++ 10 ∷ [])

-- behind what was kept of a line, a text was read: the piece, which ends with a line, and what is kept of the next; or the text has ended
pub record IsPiece (old new : Progress) (AtEnd : Type 0) (before piece kept : List ℕ) (ended : Bool) : Type 0 where
  pub text : List ℕ
  pub bytes : new.bytes ≡ old.bytes ++ text
  pub failures : new.failures ≡ old.failures
  pub allowance : new.allowance + length text ≡ old.allowance
  pub parts : before ++ text ≡ piece ++ kept
  pub last : IsTrue ended → AtEnd × (kept ≡ [])
  pub more : ended ≡ false → EndsLine piece × (0 < length text)
