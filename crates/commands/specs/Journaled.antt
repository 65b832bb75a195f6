-- The journal that a run of `solve` writes, in the words in which `replay` answers to it.
use Rattle.std.specs.Prelude.{◌≡◌, ◌⊎◌, ℕ, List, Option, None, Result, Ok, Err}
use Rattle.minelib_reader.specs.Device.{Progress, Writes, Wrote, WroteFront}
use Rattle.faults.specs.Refused.{no_memory, write_failed}
use Rattle.faults.specs.declared.fault.Fault.{Fault}
use Rattle.faults.specs.declared.refusal.Refusal.{Refusal}
use Rattle.faults.specs.declared.refusal.Refusal.TheVariants.{NoMemory, WriteFailed}
use Rattle.pit_model.specs.declared.journal.Entry.{Entry}
use Rattle.pit_model.specs.Mine.{Instance, arcs}
use Rattle.pit_model.specs.Fixed.{IsRestOf}
use Rattle.pit_model.specs.Journal.{AreSeated}
use Rattle.pit_model.specs.JournalText.{AreSeatedBelow}
use Rattle.pit_model.specs.Replay.{IsComplete, IsSpentAt}
use Rattle.report.specs.JournalGrammar.{SpellsJournal}
use Rattle.report.specs.JournalLines.{budget_and_entries}
use Rattle.merging.specs.Parts.{graph_of_instance}
use Rattle.merging.specs.declared.outcome.Outcome.{Outcome}
use Rattle.merging.specs.declared.outcome.Outcome.TheVariants.{Pit, Exhausted}
use Rattle.solver.specs.declared.mode.Mode.{Mode}
use Rattle.solver.specs.declared.mode.Mode.TheVariants.{Shared}
use Rattle.solver.specs.Modes.{IsShared}
use Rattle.commands.specs.Solve.{Files, FixedInstance, GaveInOrder, fixed_in}
use Rattle.commands.specs.Chosen.{Chosen, OfWriter, OfWriterIfAny}

-- the rest of the mine that the readers gave: the instance that a journal is of
abbrev pub GaveRest : Files → Instance → Type 0
GaveRest files rest = (fixed_mine : FixedInstance) × GaveInOrder files fixed_mine × IsRestOf fixed_mine.mine (fixed_in fixed_mine) rest

-- a journal is written in mode shared alone
abbrev pub MayJournal : Mode → Option Progress → Type 0
MayJournal mode before = (before ≡ None) ⊎ IsShared mode

-- how a journal of a mine ends, under its budget
abbrev pub JournalEnd : Type 1
JournalEnd = Instance → Option ℕ → List Entry → Type 0

-- with so many mergers, which are all that its budget allows, and a merger arc left
abbrev pub AtBudget : ℕ → JournalEnd
AtBudget count mine budget entries = IsSpentAt mine budget entries count

-- as the outcome of a solve says
abbrev pub EndOf : Outcome → JournalEnd
EndOf (Pit certificate) = IsComplete
EndOf (Exhausted count) = AtBudget count

-- without a merger arc left, or at the budget
abbrev pub AtAnyEnd : JournalEnd
AtAnyEnd mine budget entries = IsComplete mine budget entries ⊎ ((count : ℕ) × AtBudget count mine budget entries)

-- the text spells a journal of the mine that ends so: under the mode's budget, and under the seats of its workers and the driver
abbrev pub SaysJournal : JournalEnd → Mode → Instance → List ℕ → Type 0
SaysJournal Ends (Shared workers budget chunk) mine text =
    (entries : List Entry) × SpellsJournal (graph_of_instance mine) text (budget_and_entries budget entries) × AreSeated mine workers entries × Ends mine budget entries
SaysJournal Ends mode mine text = ⊥

-- the text of such a journal of the rest of a mine was written, or a beginning of it
pub record WritesJournal {E : Type 0} (Ends : JournalEnd) (mode : Mode) (fixed_mine : FixedInstance) (result : Result (Unit {0}) E) (before after : Progress) : Type 0 where
  pub rest : Instance
  pub is_rest : IsRestOf fixed_mine.mine (fixed_in fixed_mine) rest
  pub text : List ℕ
  pub says : SaysJournal Ends mode rest text
  pub writes : Writes before after text result

-- what went of such a journal to a writer of choice
abbrev pub PutsJournal : JournalEnd → Mode → FixedInstance → Chosen → Result (Unit {0}) Fault → Type 0
PutsJournal Ends mode fixed_mine c (Ok x) = OfWriterIfAny c (WritesJournal {E = Fault} Ends mode fixed_mine (Ok x))
PutsJournal Ends mode fixed_mine c (Err e) = OfWriter c (WritesJournal {E = Fault} Ends mode fixed_mine (Err e)) × (e ≡ write_failed)

-- exactly the text of a journal of the rest of the mine that the readers gave was written
pub record IsJournaled (Ends : JournalEnd) (mode : Mode) (files : Files) (before after : Progress) : Type 0 where
  pub rest : Instance
  pub given : GaveRest files rest
  pub text : List ℕ
  pub says : SaysJournal Ends mode rest text
  pub wrote : Wrote before after text

-- a beginning of one was written, and then a write failed
pub record IsJournalCut (mode : Mode) (files : Files) (before after : Progress) : Type 0 where
  pub rest : Instance
  pub given : GaveRest files rest
  pub text : List ℕ
  pub says : SaysJournal AtAnyEnd mode rest text
  pub wrote : WroteFront before after text

-- entries that can be written as a journal of the rest of a mine
abbrev pub MayPutEntries : FixedInstance → List Entry → Type 0
MayPutEntries fixed_mine entries = (rest : Instance) × IsRestOf fixed_mine.mine (fixed_in fixed_mine) rest × AreSeatedBelow (arcs rest) entries

-- the text of these entries as a journal of the rest was written, or a beginning of it
pub record PutsEntries (fixed_mine : FixedInstance) (budget : Option ℕ) (entries : List Entry) (before after : Progress) (result : Result (Unit {0}) Fault) : Type 0 where
  pub rest : Instance
  pub is_rest : IsRestOf fixed_mine.mine (fixed_in fixed_mine) rest
  pub text : List ℕ
  pub spelled : SpellsJournal (graph_of_instance rest) text (budget_and_entries budget entries)
  pub writes : Writes before after text result

-- why they were not written: no memory, and then nothing of them; or a write failed
abbrev pub RefusesEntries : FixedInstance → Option ℕ → List Entry → Refusal → Fault → Progress → Progress → Type 0
RefusesEntries fixed_mine budget entries NoMemory fault before after = (fault ≡ no_memory) × (after ≡ before)
RefusesEntries fixed_mine budget entries WriteFailed fault before after = (fault ≡ write_failed) × PutsEntries fixed_mine budget entries before after (Err fault)
RefusesEntries fixed_mine budget entries _ fault before after = ⊥
