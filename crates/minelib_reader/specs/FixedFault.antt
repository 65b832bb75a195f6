-- The first fault of a file of fixed blocks: that of the least line that breaks a check, and on it the first check.
use Rattle.std.specs.Prelude.{ℕ, ◌+◌, List, [], ◌∷◌, take, Option, Some, None}
use Rattle.std.specs.List.{slice_get}
use Rattle.std.specs.Result.{result_err}
use Rattle.faults.specs.declared.fault.Fault.{Fault}
use Rattle.faults.specs.FirstFault.{IsFirstFault}
use Rattle.minelib_reader.specs.Text.{Row, rows_of}
use Rattle.minelib_reader.specs.PrecFault.{second_number}
use Rattle.minelib_reader.specs.Fixed.{fixed_line}

-- the least id that a line may have behind these lines, where it was from before them
abbrev pub from_behind : ℕ → List Row → ℕ
from_behind from [] = from
from_behind from (r ∷ rows) = from_behind (second_number r.fields + 1) rows

-- the first check that a line breaks, if there is the line
abbrev pub fixed_line_fault : ℕ → ℕ → Option Row → Option Fault
fixed_line_fault n from None = None
fixed_line_fault n from (Some r) = result_err (fixed_line n from r)

abbrev pub fault_behind : ℕ → ℕ → List Row → ℕ → Option Fault
fault_behind n from rows k = fixed_line_fault n (from_behind from (take k rows)) (slice_get rows k)

-- the first check that the text breaks in its line with fields number k, counted from 0
abbrev pub fixed_fault_at : ℕ → List ℕ → ℕ → Option Fault
fixed_fault_at n text k = fault_behind n 0 (rows_of text) k

abbrev pub IsFirstFixedFault : ℕ → List ℕ → Fault → Type 0
IsFirstFixedFault n text fault = IsFirstFault (fixed_fault_at n text) fault
