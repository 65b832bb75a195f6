-- What a run of `replay` writes, and what it refuses, over the bytes that went through its readers and its writer.
use Rattle.std.specs.Prelude.{◌≡◌, ℕ, List, Ok, Err}
use Rattle.minelib_reader.specs.Device.{Progress, Writes, Wrote, WroteFront}
use Rattle.faults.specs.Refused.{no_memory, write_failed, exhausted}
use Rattle.faults.specs.declared.fault.Fault.{Fault}
use Rattle.faults.specs.declared.refusal.Refusal.{Refusal}
use Rattle.faults.specs.declared.refusal.Refusal.TheVariants.{NoMemory, ReadFailed, WriteFailed, NoSeat, Exhausted}
use Rattle.faults.specs.declared.source.Source.TheVariants as sources
use Rattle.pit_model.specs.Mine.{Instance}
use Rattle.pit_model.specs.Replay.{DiffersAt, IsComplete, IsSpentAt, IsOpenAt}
use Rattle.report.specs.JournalLines.{BudgetAndEntries}
use Rattle.report.specs.JournalGrammar.{SpellsJournal}
use Rattle.report.specs.JournalFault.{IsFirstJournalFault}
use Rattle.report.specs.ReplayText.{difference_text, open_text}
use Rattle.merging.specs.Parts.{graph_of_instance}
use Rattle.merging.specs.Replayed.{EndsReplay}
use Rattle.merging.specs.declared.replayed.Replayed.{Replayed}
use Rattle.merging.specs.declared.replayed.Replayed.TheVariants as ends
use Rattle.pit_model.specs.declared.direction.Direction.TheVariants.{Least}
use Rattle.pit_model.specs.Fixed.{IsRestOf}
use Rattle.pit_model.specs.Pit.{ListsPit}
use Rattle.commands.specs.Solve.{Files, FixedInstance, GaveInOrder, Reading, Gave, NeverFailed, FailedOnce, RefusesMine, IsPitText, Solves, fixed_in}
use Rattle.commands.specs.Journaled.{GaveRest}
use Rattle.commands.specs.declared.status.Status.{Status}
use Rattle.commands.specs.declared.status.Status.TheVariants.{Done, No}

-- the reader gave a text that spells this journal of the rest's graph
pub record GaveJournal (rest : Instance) (reading : Reading) (journal : BudgetAndEntries) : Type 0 where
  pub text : List ℕ
  pub given : Gave reading text
  pub spelled : SpellsJournal (graph_of_instance rest) text journal

-- the reader gave a journal of an instance, and its replay ends so
pub record IsReplayedOn (rest : Instance) (reading : Reading) (end : Replayed) : Type 0 where
  pub journal : BudgetAndEntries
  pub given : GaveJournal rest reading journal
  pub ends : EndsReplay rest journal.budget journal.entries end

-- how the replay of a journal of the rest ends; at its end without a merger arc left, the blocks are the pit of the mine
abbrev pub EndsOnRest : FixedInstance → Instance → BudgetAndEntries → Replayed → Type 0
EndsOnRest fixed_mine rest journal (ends.Pit pit) = IsComplete rest journal.budget journal.entries × ListsPit Least fixed_mine.mine (fixed_in fixed_mine) pit.items
EndsOnRest fixed_mine rest journal end = EndsReplay rest journal.budget journal.entries end

-- the reader gave a journal of the rest of the mine, and its replay ends so
pub record IsReplayed (fixed_mine : FixedInstance) (reading : Reading) (end : Replayed) : Type 0 where
  pub rest : Instance
  pub is_rest : IsRestOf fixed_mine.mine (fixed_in fixed_mine) rest
  pub journal : BudgetAndEntries
  pub given : GaveJournal rest reading journal
  pub ends : EndsOnRest fixed_mine rest journal end

-- what is written of the replay of a journal of a mine's rest: the text of the pit, where each verdict is lawful and no merger arc is
-- left; which entry is the first without its lawful verdict; or after how many mergers one is left that the budget allows
pub data AnswersJournal (fixed_mine : FixedInstance) (rest : Instance) (journal : BudgetAndEntries) (text : List ℕ) (status : Status) : Type 0 where
  settled : IsComplete rest journal.budget journal.entries → IsPitText Least fixed_mine text → status ≡ Done → AnswersJournal fixed_mine rest journal text status
  differs : (k : ℕ) → DiffersAt rest journal.budget journal.entries k → text ≡ difference_text k → status ≡ No → AnswersJournal fixed_mine rest journal text status
  unfinished : (count : ℕ) → IsOpenAt rest journal.budget journal.entries count → text ≡ open_text count → status ≡ No → AnswersJournal fixed_mine rest journal text status

-- the readers gave a mine and a journal of its rest, and this is the answer; where that is the text of a pit, it is the pit of
-- the mine as the files spell it
pub record Replays (files : Files) (journal : Reading) (text : List ℕ) (status : Status) : Type 0 where
  pub fixed_mine : FixedInstance
  pub given : GaveInOrder files fixed_mine
  pub rest : Instance
  pub is_rest : IsRestOf fixed_mine.mine (fixed_in fixed_mine) rest
  pub said : BudgetAndEntries
  pub journal_given : GaveJournal rest journal said
  pub answers : AnswersJournal fixed_mine rest said text status
  pub solves : status ≡ Done → Solves Least files text

-- exactly the answer was written
pub record ReportsReplay (files : Files) (journal : Reading) (before after : Progress) (status : Status) : Type 0 where
  pub text : List ℕ
  pub replays : Replays files journal text status
  pub wrote : Wrote before after text

-- a beginning of the answer was written, and then a write failed
pub record IsReplayCut (files : Files) (journal : Reading) (before after : Progress) : Type 0 where
  pub text : List ℕ
  pub status : Status
  pub replays : Replays files journal text status
  pub wrote : WroteFront before after text

-- each verdict of the journal is lawful, and its budget of so many mergers is used up with a merger arc left
pub record IsJournalSpent (files : Files) (journal : Reading) (count : ℕ) : Type 0 where
  pub rest : Instance
  pub given : GaveRest files rest
  pub said : BudgetAndEntries
  pub journal_given : GaveJournal rest journal said
  pub spent : IsSpentAt rest said.budget said.entries count

-- why no journal of an instance was read or replayed
abbrev pub RefusesJournalOn : Refusal → Fault → Instance → Reading → Type 0
RefusesJournalOn NoMemory fault rest journal = (fault ≡ no_memory) × NeverFailed journal
RefusesJournalOn ReadFailed fault rest journal = FailedOnce sources.Journal fault journal
RefusesJournalOn WriteFailed fault rest journal = ⊥
RefusesJournalOn NoSeat fault rest journal = ⊥
RefusesJournalOn (Exhausted count) fault rest journal = ⊥
RefusesJournalOn _ fault rest journal = (text : List ℕ) × Gave journal text × IsFirstJournalFault (graph_of_instance rest) text fault

-- why no journal of a mine's rest was read or replayed
abbrev pub RefusesJournal : Refusal → Fault → FixedInstance → Reading → Type 0
RefusesJournal NoMemory fault fixed_mine journal = (fault ≡ no_memory) × NeverFailed journal
RefusesJournal refusal fault fixed_mine journal = (rest : Instance) × IsRestOf fixed_mine.mine (fixed_in fixed_mine) rest × RefusesJournalOn refusal fault rest journal

-- why nothing was replayed: no mine was read, and then nothing of a journal either; or no journal of the mine was
pub data NotReplayed (fault : Fault) (files : Files) (journal : Reading) : Type 0 where
  no_mine : RefusesMine fault.refusal fault files → journal.after ≡ journal.before → NotReplayed fault files journal
  no_journal : (fixed_mine : FixedInstance) → GaveInOrder files fixed_mine → RefusesJournal fault.refusal fault fixed_mine journal → NotReplayed fault files journal

-- why a run ended without an answer: nothing was written, but where a write failed
abbrev pub RefusesReplay : Refusal → Fault → Files → Reading → Progress → Progress → Type 0
RefusesReplay WriteFailed fault files journal before after = (fault ≡ write_failed) × IsReplayCut files journal before after
RefusesReplay (Exhausted count) fault files journal before after = (fault ≡ exhausted count) × IsJournalSpent files journal count × (after ≡ before)
RefusesReplay _ fault files journal before after = NotReplayed fault files journal × (after ≡ before)

-- the blocks at the end of a replay, where it gives some, are the pit
abbrev pub ShowsEnd : FixedInstance → Replayed → Type 0
ShowsEnd fixed_mine (ends.Pit pit) = ListsPit Least fixed_mine.mine (fixed_in fixed_mine) pit.items
ShowsEnd fixed_mine _ = Unit {0}

-- what is written of the end of a replay, and the status
abbrev pub TellsEnd : FixedInstance → Replayed → List ℕ → Status → Type 0
TellsEnd fixed_mine (ends.Pit pit) text status = IsPitText Least fixed_mine text × (status ≡ Done)
TellsEnd fixed_mine (ends.Differs k) text status = (text ≡ difference_text k) × (status ≡ No)
TellsEnd fixed_mine (ends.Open count) text status = (text ≡ open_text count) × (status ≡ No)
TellsEnd fixed_mine (ends.Exhausted count) text status = ⊥

-- why the end of a replay was not told: a beginning of its text was written; or a budget is used up, and nothing was
pub data FailsToReport (fixed_mine : FixedInstance) (end : Replayed) (before after : Progress) (fault : Fault) : Type 0 where
  cut : (text : List ℕ) (status : Status) → TellsEnd fixed_mine end text status → Writes before after text (Err fault) → fault ≡ write_failed → FailsToReport fixed_mine end before after fault
  spent : (count : ℕ) → end ≡ ends.Exhausted count → fault ≡ exhausted count → after ≡ before → FailsToReport fixed_mine end before after fault

-- the text of the end of a replay was written
abbrev pub ReportsEnd : FixedInstance → Replayed → Progress → Progress → Status → Type 0
ReportsEnd fixed_mine end before after status = (text : List ℕ) × TellsEnd fixed_mine end text status × Writes {E = Fault} before after text (Ok tt)
