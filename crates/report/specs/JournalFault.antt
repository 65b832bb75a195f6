-- The first fault of the text of a journal: that of the least line that breaks a check, and on it the first check.
use Rattle.std.specs.Prelude.{ℕ, List, Option}
use Rattle.faults.specs.declared.fault.Fault.{Fault}
use Rattle.faults.specs.FirstFault.{IsFirstFault}
use Rattle.minelib_reader.specs.Text.{rows_of, count_of_lines}
use Rattle.pit_model.specs.Graph.{Graph}
use Rattle.report.specs.LineByLine.{line_fault_after}
use Rattle.report.specs.JournalLines.{journal_step, journal_end, first_journal_state}

-- the first check that the text breaks in its line with fields number k, counted from 0
abbrev pub journal_fault_at : Graph → List ℕ → ℕ → Option Fault
journal_fault_at graph text k = line_fault_after (journal_step graph) (journal_end (count_of_lines text)) first_journal_state (rows_of text) k

abbrev pub IsFirstJournalFault : Graph → List ℕ → Fault → Type 0
IsFirstJournalFault graph text fault = IsFirstFault (journal_fault_at graph text) fault
