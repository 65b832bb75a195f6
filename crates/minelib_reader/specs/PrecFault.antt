-- The first fault of a precedence file: that of the least line that breaks a check, and on it the first check.
use Rattle.std.specs.Prelude.{ℕ, ◌+◌, List, [], ◌∷◌, take, Option, Some, None}
use Rattle.std.specs.List.{slice_get}
use Rattle.faults.specs.declared.fault.Fault.{Fault}
use Rattle.std.specs.Result.{result_err}
use Rattle.faults.specs.FirstFault.{IsFirstFault}
use Rattle.minelib_reader.specs.Text.{Row, rows_of}
use Rattle.minelib_reader.specs.Number.{whole_of}
use Rattle.minelib_reader.specs.Prec.{needs_line}

-- the number of a field, and 0 where it writes none
abbrev pub number_or_zero : Option ℕ → ℕ
number_or_zero None = 0
number_or_zero (Some n) = n

-- the numbers that the first field and the second write
abbrev pub first_number : List (List ℕ) → ℕ
first_number [] = 0
first_number (f ∷ fs) = number_or_zero (whole_of f)

abbrev pub second_number : List (List ℕ) → ℕ
second_number (f ∷ g ∷ fs) = number_or_zero (whole_of g)
second_number fs = 0

-- the least id that a line may have behind these lines, where it was from before them
abbrev pub from_behind : ℕ → List Row → ℕ
from_behind from [] = from
from_behind from (r ∷ rows) = from_behind (first_number r.fields + 1) rows

-- the sum of the counts of these lines, on top of total
abbrev pub total_behind : ℕ → List Row → ℕ
total_behind total [] = total
total_behind total (r ∷ rows) = total_behind (total + second_number r.fields) rows

-- the first check that a line breaks, if there is the line
abbrev pub needs_line_fault : ℕ → ℕ → ℕ → Option Row → Option Fault
needs_line_fault n from total None = None
needs_line_fault n from total (Some r) = result_err (needs_line n from total r)

abbrev pub fault_behind : ℕ → ℕ → ℕ → List Row → ℕ → Option Fault
fault_behind n from total rows k = needs_line_fault n (from_behind from (take k rows)) (total_behind total (take k rows)) (slice_get rows k)

-- the first check that the text breaks in its line with fields number k, counted from 0
abbrev pub prec_fault_at : ℕ → List ℕ → ℕ → Option Fault
prec_fault_at n text k = fault_behind n 0 0 (rows_of text) k

abbrev pub IsFirstPrecFault : ℕ → List ℕ → Fault → Type 0
IsFirstPrecFault n text fault = IsFirstFault (prec_fault_at n text) fault
