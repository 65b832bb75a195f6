-- Writing piece by piece through a buffer, where nothing is written behind a write that failed.
use Rattle.std.specs.Prelude.{◌≡◌, ℕ, ◌+◌, ◌<◌, ◌^◌, Bool, true, false, List, ◌++◌, Result, Ok, Err}
use Rattle.faults.specs.declared.fault.Fault.{Fault}
use Rattle.minelib_reader.specs.Device.{Progress, Begins}
use Rattle.faults.specs.Refused.{write_failed}

-- the bytes that wait in the buffer, and whether a write failed
pub record Waiting : Type 0 where
  pub bytes : List ℕ
  pub failed : Bool

-- the writer may be called, unless a write failed before
abbrev pub IsReadyCases : Progress → Bool → Type 0
IsReadyCases p true = Unit {0}
IsReadyCases p false = p.failures < 2 ^ 63

abbrev pub IsReady : Progress → Waiting → Type 0
IsReady p out = IsReadyCases p out.failed

-- a text was put behind the bytes that waited: some of these bytes were sent, and the rest waits; or a beginning of them
-- was sent, and then a write failed; or nothing was, since one had failed before
abbrev pub PutCases : Progress → Bool → List ℕ → Progress → Bool → List ℕ → List ℕ → Type 0
PutCases p true before q true after text = (q.bytes ≡ p.bytes) × (q.failures ≡ p.failures)
PutCases p true before q false after text = ⊥
PutCases p false before q false after text =
    ((sent : List ℕ) × (q.bytes ≡ p.bytes ++ sent) × (sent ++ after ≡ before ++ text)) × (q.failures ≡ p.failures)
PutCases p false before q true after text =
    ((sent : List ℕ) × Begins sent (before ++ text) × (q.bytes ≡ p.bytes ++ sent)) × (q.failures ≡ p.failures + 1)

pub record Puts (p : Progress) (old : Waiting) (q : Progress) (new : Waiting) (text : List ℕ) : Type 0 where
  pub cases : PutCases p old.failed old.bytes q new.failed new.bytes text

-- what is answered at the end: refusal WriteFailed where a write failed
abbrev pub AnswersWrite : Waiting → Result (Unit {0}) Fault → Type 0
AnswersWrite out (Ok x) = out.failed ≡ false
AnswersWrite out (Err e) = (out.failed ≡ true) × (e ≡ write_failed)
