-- The first fault of a block model file: that of the least line that breaks a check, and on it the first check.
use Rattle.std.specs.Prelude.{ℕ, zero, suc, ◌-◌, List, [], ◌∷◌, length, Option, Some, None}
use Rattle.std.specs.List.{slice_get}
use Rattle.faults.specs.declared.fault.Fault.{Fault}
use Rattle.minelib_reader.specs.Checks.{◌>>=◌}
use Rattle.std.specs.Result.{result_err}
use Rattle.faults.specs.FirstFault.{IsFirstFault}
use Rattle.minelib_reader.specs.Text.{Row, rows_of}
use Rattle.minelib_reader.specs.Blocks.{width_line, block_line}

-- how many attributes the first line has
abbrev pub width_named : List Row → ℕ
width_named [] = 0
width_named (r ∷ rows) = length r.fields - 4

-- the first check that a line breaks, if there is the line, by its place; the first line also says how wide the table is
abbrev pub block_line_fault : ℕ → ℕ → Option Row → Option Fault
block_line_fault width k None = None
block_line_fault width zero (Some r) = result_err (width_line r >>= λ w. block_line w 0 r)
block_line_fault width (suc k) (Some r) = result_err (block_line width (suc k) r)

abbrev pub fault_in_rows : List Row → ℕ → Option Fault
fault_in_rows rows k = block_line_fault (width_named rows) k (slice_get rows k)

-- the first check that the text breaks in its line with fields number k, counted from 0
abbrev pub table_fault_at : List ℕ → ℕ → Option Fault
table_fault_at text k = fault_in_rows (rows_of text) k

abbrev pub IsFirstTableFault : List ℕ → Fault → Type 0
IsFirstTableFault text fault = IsFirstFault (table_fault_at text) fault
