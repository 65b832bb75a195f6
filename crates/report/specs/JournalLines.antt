-- The text of a journal: the checks of each line in their order, and the reading of all lines by them.
use Rattle.std.specs.Prelude.{ℕ, zero, suc, ◌+◌, ◌^◌, nat_lt, nat_le, ◌==◌, List, [], ◌∷◌, ◌++◌, length, Option, Some, None, Result, Ok, Err, codes, if◌then◌else◌}
use Rattle.std.specs.Str.{bytes_eq}
use Rattle.std.specs.Option.{ok_or}
use Rattle.faults.specs.declared.fault.Fault.{Fault}
use Rattle.faults.specs.declared.refusal.Refusal.{Refusal}
use Rattle.faults.specs.declared.refusal.Refusal.TheVariants.{OverLimit, NotWhole, IdOutOfPlace, WrongFieldCount, EndsEarly, AfterEnd}
use Rattle.faults.specs.declared.source.Source.TheVariants.{Journal}
use Rattle.faults.specs.Refused.{at_line}
use Rattle.minelib_reader.specs.Checks.{◌>>=◌, ok_if}
use Rattle.minelib_reader.specs.Text.{Row, rows_of, count_of_lines}
use Rattle.minelib_reader.specs.Number.{whole_of, digits_of}
use Rattle.pit_model.specs.declared.journal.Entry.{Entry}
use Rattle.pit_model.specs.declared.journal.Verdict.{Verdict}
use Rattle.pit_model.specs.declared.journal.Verdict.TheVariants.{Applied, Stale, Spent}
use Rattle.pit_model.specs.Graph.{Graph}
use Rattle.pit_model.specs.JournalText.{most_seat}
use Rattle.report.specs.declared.due.JournalLine.{JournalLine}
use Rattle.report.specs.declared.due.JournalLine.TheVariants.{Title, Blocks, Arcs, Budget, Count, Entries}
use Rattle.report.specs.HeadLines.{three_of, title_line, field_line, same_line}
use Rattle.report.specs.LineByLine.{read_from}

abbrev pub in_journal : Refusal → ℕ → Fault
in_journal refusal line = at_line Journal refusal line

-- a count or a budget: 1 to 20 digits, and below 2^64
unfoldable pub wide_field : ℕ → List ℕ → Result ℕ Fault
wide_field line field = do
  n ← ok_or (digits_of 20 field) (in_journal NotWhole line)
  few ← ok_if (nat_lt n (2 ^ 64)) (in_journal OverLimit line)
  Ok n

-- the budget, or the word for none
unfoldable pub budget_field : ℕ → List ℕ → Result (Option ℕ) Fault
budget_field line field = if bytes_eq field (codes "none") then Ok None else (wide_field line field >>= λ n. Ok (Some n))

unfoldable pub budget_line : Row → Result (Option ℕ) Fault
budget_line r = do
  field ← field_line Journal (codes "BUDGET:") r
  budget_field r.line field

-- how many entries follow
unfoldable pub entry_count_line : Row → Result ℕ Fault
entry_count_line r = do
  field ← field_line Journal (codes "ENTRIES:") r
  wide_field r.line field

-- the verdict of a number
abbrev pub verdict_of : ℕ → Option Verdict
verdict_of n = if n == 1 then Some Applied else (if n == 2 then Some Stale else (if n == 3 then Some Spent else None))

-- the seat, the arc of m, and the verdict
unfoldable pub decision_line : ℕ → Row → Result Entry Fault
decision_line m r = do
  parts ← ok_or (three_of r.fields) (in_journal WrongFieldCount r.line)
  seat ← ok_or (whole_of parts.0) (in_journal NotWhole r.line)
  seated ← ok_if (nat_le seat most_seat) (in_journal OverLimit r.line)
  arc ← ok_or (whole_of parts.1) (in_journal NotWhole r.line)
  known ← ok_if (nat_lt arc m) (in_journal IdOutOfPlace r.line)
  number ← ok_or (whole_of parts.2) (in_journal NotWhole r.line)
  verdict ← ok_or (verdict_of number) (in_journal OverLimit r.line)
  Ok (record { seat = seat; arc = arc; verdict = verdict })

-- which line is due, and the entries of the lines so far
pub record JournalState : Type 0 where
  pub due : JournalLine
  pub entries : List Entry

abbrev pub journal_state : JournalLine → List Entry → JournalState
journal_state due entries = record { due = due; entries = entries }

-- an entry, while some are left
unfoldable pub entry_step : Graph → Option ℕ → ℕ → List Entry → Row → Result JournalState Fault
entry_step graph budget zero entries r = Err (in_journal AfterEnd r.line)
entry_step graph budget (suc left) entries r = do
  entry ← decision_line (length graph.pairs) r
  Ok (journal_state (Entries budget left) (entries ++ entry ∷ []))

-- what a line gives where it is the one that is due
unfoldable pub journal_step_at : Graph → JournalLine → List Entry → Row → Result JournalState Fault
journal_step_at graph Title entries r = do
  title ← title_line Journal (codes "PITJOURNAL") r
  Ok (journal_state Blocks entries)
journal_step_at graph Blocks entries r = do
  same ← same_line Journal (codes "BLOCKS:") graph.blocks r
  Ok (journal_state Arcs entries)
journal_step_at graph Arcs entries r = do
  same ← same_line Journal (codes "ARCS:") (length graph.pairs) r
  Ok (journal_state Budget entries)
journal_step_at graph Budget entries r = do
  budget ← budget_line r
  Ok (journal_state (Count budget) entries)
journal_step_at graph (Count budget) entries r = do
  count ← entry_count_line r
  Ok (journal_state (Entries budget count) entries)
journal_step_at graph (Entries budget left) entries r = entry_step graph budget left entries r

-- a journal with its budget, without where it lies in memory
pub record BudgetAndEntries : Type 0 where
  pub budget : Option ℕ
  pub entries : List Entry

abbrev pub budget_and_entries : Option ℕ → List Entry → BudgetAndEntries
budget_and_entries budget entries = record { budget = budget; entries = entries }

-- the text ends here: nothing may be left; count is the number of its lines
unfoldable pub journal_end_at : ℕ → JournalLine → List Entry → Result BudgetAndEntries Fault
journal_end_at count (Entries budget zero) entries = Ok (budget_and_entries budget entries)
journal_end_at count _ entries = Err (in_journal EndsEarly (count + 1))

abbrev pub journal_step : Graph → JournalState → Row → Result JournalState Fault
journal_step graph s r = journal_step_at graph s.due s.entries r

abbrev pub journal_end : ℕ → JournalState → Result BudgetAndEntries Fault
journal_end count s = journal_end_at count s.due s.entries

abbrev pub first_journal_state : JournalState
first_journal_state = journal_state Title []

-- the journal of the graph that a text spells, or its first fault
abbrev pub journal_of : Graph → List ℕ → Result BudgetAndEntries Fault
journal_of graph text = read_from (journal_step graph) (journal_end (count_of_lines text)) first_journal_state (rows_of text)
