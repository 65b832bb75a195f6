-- The first fault of the text of a model: that of the least line that breaks a check, and on it the first check.
use Rattle.std.specs.Prelude.{ℕ, zero, suc, ◌+◌, nat_lt, if◌then◌else◌, List, Option, Some, None, Result, Ok, Err}
use Rattle.std.specs.List.{slice_get}
use Rattle.faults.specs.declared.fault.Fault.{Fault}
use Rattle.faults.specs.declared.refusal.Refusal.TheVariants.{EndsEarly, AfterEnd}
use Rattle.std.specs.Result.{result_err}
use Rattle.faults.specs.FirstFault.{IsFirstFault}
use Rattle.minelib_reader.specs.Text.{Row, rows_of, count_of_lines}
use Rattle.minelib_reader.specs.Upit.{in_model, name_line, type_line, blocks_line, objective_line, value_line}

-- how many blocks the third line names, and 0 where it names none
abbrev pub number_in : Result ℕ Fault → ℕ
number_in (Ok n) = n
number_in (Err e) = 0

abbrev pub blocks_named : Option Row → ℕ
blocks_named None = 0
blocks_named (Some r) = number_in (blocks_line r)

-- the first check that a line with fields breaks, by its place: four header lines, then those of n blocks
abbrev pub model_line_fault : ℕ → ℕ → Row → Option Fault
model_line_fault n zero r = result_err (name_line r)
model_line_fault n (suc zero) r = result_err (type_line r)
model_line_fault n (suc (suc zero)) r = result_err (blocks_line r)
model_line_fault n (suc (suc (suc zero))) r = result_err (objective_line r)
model_line_fault n (suc (suc (suc (suc i)))) r = if nat_lt i n then result_err (value_line i r) else Some (in_model AfterEnd r.line)

-- the same of a place that may have no line: a fault where a line is due, in the line behind the last of count
abbrev pub place_fault : ℕ → ℕ → ℕ → Option Row → Option Fault
place_fault count n place None = if nat_lt place (n + 4) then Some (in_model EndsEarly (count + 1)) else None
place_fault count n place (Some r) = model_line_fault n place r

abbrev pub fault_in_rows : ℕ → List Row → ℕ → Option Fault
fault_in_rows count rows k = place_fault count (blocks_named (slice_get rows 2)) k (slice_get rows k)

-- the first check that the text breaks in its line with fields number k, counted from 0
abbrev pub upit_fault_at : List ℕ → ℕ → Option Fault
upit_fault_at text k = fault_in_rows (count_of_lines text) (rows_of text) k

abbrev pub IsFirstUpitFault : List ℕ → Fault → Type 0
IsFirstUpitFault text fault = IsFirstFault (upit_fault_at text) fault
