-- What a reader and a writer have done so far, and what one call of theirs does.
use Rattle.std.specs.Prelude.{◌≡◌, ℕ, ◌+◌, ◌<◌, ◌≤◌, List, [], ◌++◌, length, take, Result, Ok, Err}
use Rattle.minelib_reader.specs.declared.device.DeviceFailed.{DeviceFailed}

-- the bytes that went through so far, in order; the failures so far; and how many bytes may still go through
pub record Progress : Type 0 where
  pub bytes : List ℕ
  pub failures : ℕ
  pub allowance : ℕ

abbrev pub progress : List ℕ → ℕ → ℕ → Progress
progress bytes failures allowance = record { bytes = bytes; failures = failures; allowance = allowance }

-- nothing went through yet
abbrev pub unread : ℕ → Progress
unread allowance = progress [] 0 allowance

-- one read: the bytes at the front of the buffer are the next ones, or the call failed and was counted
abbrev pub ReadGives : Progress → Progress → Result ℕ DeviceFailed → List ℕ → Type 0
ReadGives old new (Ok n) buf = (n ≤ length buf) × (new.bytes ≡ old.bytes ++ take n buf) × (new.failures ≡ old.failures) × (new.allowance + n ≡ old.allowance)
ReadGives old new (Err e) buf = (new.bytes ≡ old.bytes) × (new.failures ≡ old.failures + 1) × (new.allowance ≡ old.allowance)

-- one write: so many bytes of the text went out, at least one of a text that isn't empty, or the call failed and was counted
abbrev pub WriteTakes : Progress → Progress → Result ℕ DeviceFailed → List ℕ → Type 0
WriteTakes old new (Ok n) text = (n ≤ length text) × (0 < length text → 0 < n) × (new.bytes ≡ old.bytes ++ take n text) × (new.failures ≡ old.failures)
WriteTakes old new (Err e) text = (new.bytes ≡ old.bytes) × (new.failures ≡ old.failures + 1)

-- a write succeeded, and took at least one byte of a text that isn't empty
abbrev pub TakesSome : {E : Type 0} → Result ℕ E → List ℕ → Type 0
TakesSome (Ok n) text = 0 < length text → 0 < n
TakesSome (Err e) text = ⊥

-- text begins with front
abbrev pub Begins : List ℕ → List ℕ → Type 0
Begins front text = (behind : List ℕ) × (text ≡ front ++ behind)

-- exactly this text was written
abbrev pub Wrote : Progress → Progress → List ℕ → Type 0
Wrote old new text = (new.bytes ≡ old.bytes ++ text) × (new.failures ≡ old.failures)

-- a beginning of it was written, and then a write failed
abbrev pub WroteFront : Progress → Progress → List ℕ → Type 0
WroteFront old new text = ((front : List ℕ) × Begins front text × (new.bytes ≡ old.bytes ++ front)) × (new.failures ≡ old.failures + 1)

abbrev pub Writes : {E : Type 0} → Progress → Progress → List ℕ → Result (Unit {0}) E → Type 0
Writes old new text (Ok x) = Wrote old new text
Writes old new text (Err e) = WroteFront old new text
