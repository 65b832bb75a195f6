-- A text that is read line by line: what a line gives in a state, and what the end of the text gives there. The first fault
-- is that of the least line that breaks a check, and on it the first check.
use Rattle.std.specs.Prelude.{ℕ, List, [], ◌∷◌, take, Option, Some, None, Result, Ok, Err}
use Rattle.std.specs.List.{slice_get}
use Rattle.std.specs.Result.{result_err}
use Rattle.faults.specs.declared.fault.Fault.{Fault}
use Rattle.minelib_reader.specs.Checks.{◌>>=◌}
use Rattle.minelib_reader.specs.Text.{Row}

-- all lines, one after the other
unfoldable pub read_from : {S Y : Type 0} → (S → Row → Result S Fault) → (S → Result Y Fault) → S → List Row → Result Y Fault
read_from step end s [] = end s
read_from step end s (r ∷ rows) = do
  t ← step s r
  read_from step end t rows

-- the state behind a line, and behind several: a line that breaks a check leaves it as it was
abbrev pub state_or : {S : Type 0} → S → Result S Fault → S
state_or s (Ok t) = t
state_or s (Err e) = s

abbrev pub state_behind : {S : Type 0} → (S → Row → Result S Fault) → S → List Row → S
state_behind step s [] = s
state_behind step s (r ∷ rows) = state_behind step (state_or s (step s r)) rows

-- the first check that a line breaks in a state, or the end of the text where there is no line
abbrev pub line_fault : {S Y : Type 0} → (S → Row → Result S Fault) → (S → Result Y Fault) → S → Option Row → Option Fault
line_fault step end s None = result_err (end s)
line_fault step end s (Some r) = result_err (step s r)

-- the first check that is broken in the line number k of these, counted from 0
abbrev pub line_fault_after : {S Y : Type 0} → (S → Row → Result S Fault) → (S → Result Y Fault) → S → List Row → ℕ → Option Fault
line_fault_after step end s rows k = line_fault step end (state_behind step s (take k rows)) (slice_get rows k)
