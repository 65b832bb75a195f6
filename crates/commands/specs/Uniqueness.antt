-- Two runs over the same texts end alike: what they write is the same, whatever their readers and writers, modes and workers.
use Rattle.std.specs.Prelude.{◌≡◌, ◌≢◌, ◌⊎◌, ℕ, ◌++◌, Bool, true, List, Some}
use Rattle.minelib_reader.specs.Device.{Progress}
use Rattle.faults.specs.Refused.{no_memory}
use Rattle.faults.specs.declared.fault.Fault.{Fault}
use Rattle.faults.specs.declared.refusal.Refusal.{Refusal}
use Rattle.faults.specs.declared.refusal.Refusal.TheVariants.{Exhausted, NoMemory, NoSeat, ReadFailed, WriteFailed}
use Rattle.pit_model.specs.Graph.{IsGraph}
use Rattle.pit_model.specs.declared.direction.Direction.{Direction}
use Rattle.pit_model.specs.declared.direction.Direction.TheVariants.{Least}
use Rattle.report.specs.AnswerText.{answer_text}
use Rattle.report.specs.FaultText.{fault_text}
use Rattle.commands.specs.Solve.{OptionalReading, no_reader, one_reader, Files, FixedInstance, GaveInOrder, Reading, Gave, IsDone, FirstFault, RefusesMine}
use Rattle.commands.specs.ShellsRun.{IsShellsDone, RefusesShellsRun}
use Rattle.commands.specs.Certified.{IsCertified}
use Rattle.commands.specs.Check.{AnswersText, IsChecked, RefusesCheck}
use Rattle.commands.specs.Journaled.{AtAnyEnd, AtBudget, IsJournaled}
use Rattle.commands.specs.Replay.{ReportsReplay, RefusesJournal, RefusesReplay}
use Rattle.commands.specs.Run.{HoldsOfSearched}
use Rattle.pit_model.specs.Replay.{IsComplete}
use Rattle.solver.specs.declared.mode.Mode.{Mode}
use Rattle.solver.specs.declared.mode.Mode.TheVariants.{Single}
use Rattle.solver.specs.Modes.{EndsWithin, RunsOut}
use Rattle.commands.specs.declared.status.Status.{Status}
use Rattle.commands.specs.declared.status.Status.TheVariants.{Done}

-- two readers gave no two different texts: where both gave a text, it is the same one
abbrev pub GaveAlike : (reading other : Reading) → Type 0
GaveAlike reading other = (text behind : List ℕ) → Gave reading text → Gave other behind → text ≡ behind

-- and neither did two readers of choice; one is there where the other is
abbrev pub ChoseAlike : (c other : OptionalReading) → Type 0
ChoseAlike no_reader no_reader = Unit {0}
ChoseAlike (one_reader r) (one_reader s) = GaveAlike r s
ChoseAlike c other = ⊥

-- two runs are over the same texts of a mine
pub record ReadAlike (files other : Files) : Type 0 where
  pub model : GaveAlike files.model other.model
  pub prec : GaveAlike files.prec other.prec
  pub fixed : ChoseAlike files.fixed other.fixed

-- the same text went to two writers
pub record TookSame (before after other_before other_after : Progress) : Type 0 where
  pub text : List ℕ
  pub taken : after.bytes ≡ before.bytes ++ text
  pub taken_too : other_after.bytes ≡ other_before.bytes ++ text

-- a reader gave the text that went to a writer
pub record GaveTaken (reading : Reading) (before after : Progress) : Type 0 where
  pub text : List ℕ
  pub taken : after.bytes ≡ before.bytes ++ text
  pub given : Gave reading text

-- two runs of `solve` over the same texts, both done toward one direction, wrote the same text
abbrev pub SolvesOnce : (files other : Files) → Type 0
SolvesOnce files other =
    (direction : Direction) (before after other_before other_after : Progress) (status other_status : Status)
    → ReadAlike files other → IsDone direction files before after status → IsDone direction other other_before other_after other_status
    → TookSame before after other_before other_after

-- a text was not read for want of memory, or by a failed read
abbrev pub IsUnread : Refusal → Type 0
IsUnread refusal = (refusal ≡ NoMemory) ⊎ (refusal ≡ ReadFailed)

-- where a run of `solve` is done, none over the same texts finds a fault in them: if it reads no mine, then for want of memory
-- or by a failed read
abbrev pub NeverFaulty : (files other : Files) → Type 0
NeverFaulty files other =
    (direction : Direction) (before after : Progress) (status : Status) (fault : Fault)
    → ReadAlike files other → IsDone direction files before after status → RefusesMine fault.refusal fault other
    → IsUnread fault.refusal

-- on one thread, where a run of `solve` ends within its budget, none over the same texts toward the same direction uses that budget up
abbrev pub SpendsOneWay : (files other : Files) → Type 0
SpendsOneWay files other =
    (direction : Direction) (budget count : ℕ) → ReadAlike files other
    → HoldsOfSearched direction files (EndsWithin (Single (Some budget)))
    → HoldsOfSearched direction other (λ searched. RunsOut (Single (Some budget)) searched count)
    → ⊥

-- two runs over the same texts that their first fault refuses name the same fault: its text is the same
abbrev pub FaultsOnce : (files other : Files) → Type 0
FaultsOnce files other =
    (fault second : Fault) → ReadAlike files other
    → fault ≢ no_memory → second ≢ no_memory → FirstFault fault files → FirstFault second other
    → fault_text fault ≡ fault_text second

-- two runs of `shells` over the same texts, with the same columns and factors, both done toward one direction, wrote the same text
abbrev pub NestsOnce : (blocks prec other_blocks other_prec : Reading) → Type 0
NestsOnce blocks prec other_blocks other_prec =
    (direction : Direction) (revenue cost : ℕ) (factors : List ℕ) (before after other_before other_after : Progress) (status other_status : Status)
    → GaveAlike blocks other_blocks → GaveAlike prec other_prec
    → IsShellsDone direction blocks prec revenue cost factors before after status
    → IsShellsDone direction other_blocks other_prec revenue cost factors other_before other_after other_status
    → TookSame before after other_before other_after

-- the law: of one text and one mine there is one answer: yes and no exclude each other
abbrev pub AnswerIsOne : Type 0
AnswerIsOne =
    (fixed_mine : FixedInstance) (text : List ℕ) (answer other : Bool) → IsGraph fixed_mine.mine.blocks fixed_mine.mine.pairs
    → AnswersText fixed_mine text answer → AnswersText fixed_mine text other → answer ≡ other

-- two runs of `check` over the same texts, both done, wrote the same answer, and ended with the same status
abbrev pub ChecksOnce : (files other : Files) (certificate other_certificate : Reading) → Type 0
ChecksOnce files other certificate other_certificate =
    (before after other_before other_after : Progress) (status other_status : Status)
    → ReadAlike files other → GaveAlike certificate other_certificate
    → IsChecked files certificate before after status
    → IsChecked other other_certificate other_before other_after other_status
    → TookSame before after other_before other_after × (status ≡ other_status)

-- two runs of `replay` over the same texts, both done, wrote the same answer, and ended with the same status
abbrev pub ReplaysOnce : (files other : Files) (journal other_journal : Reading) → Type 0
ReplaysOnce files other journal other_journal =
    (before after other_before other_after : Progress) (status other_status : Status)
    → ReadAlike files other → GaveAlike journal other_journal
    → ReportsReplay files journal before after status
    → ReportsReplay other other_journal other_before other_after other_status
    → TookSame before after other_before other_after × (status ≡ other_status)

-- a refusal by what a text says: not by memory, by a read or write that failed, or by a solve that did not end
abbrev pub BlamesAText : Refusal → Type 0
BlamesAText NoMemory = ⊥
BlamesAText ReadFailed = ⊥
BlamesAText WriteFailed = ⊥
BlamesAText NoSeat = ⊥
BlamesAText (Exhausted count) = ⊥
BlamesAText _ = Unit {0}

-- two runs of `check` over the same texts that blame one of them name the same fault: its text is the same
abbrev pub CheckFaultsOnce : (files other : Files) (certificate other_certificate : Reading) → Type 0
CheckFaultsOnce files other certificate other_certificate =
    (before after other_before other_after : Progress) (fault second : Fault)
    → ReadAlike files other → GaveAlike certificate other_certificate → BlamesAText fault.refusal → BlamesAText second.refusal
    → RefusesCheck fault.refusal fault files certificate before after
    → RefusesCheck second.refusal second other other_certificate other_before other_after
    → fault_text fault ≡ fault_text second

-- and so do two runs of `replay`
abbrev pub ReplayFaultsOnce : (files other : Files) (journal other_journal : Reading) → Type 0
ReplayFaultsOnce files other journal other_journal =
    (before after other_before other_after : Progress) (fault second : Fault)
    → ReadAlike files other → GaveAlike journal other_journal → BlamesAText fault.refusal → BlamesAText second.refusal
    → RefusesReplay fault.refusal fault files journal before after
    → RefusesReplay second.refusal second other other_journal other_before other_after
    → fault_text fault ≡ fault_text second

-- and two runs of `shells` with the same columns, in any modes, toward any directions, at any factors
abbrev pub ShellFaultsOnce : (blocks prec other_blocks other_prec : Reading) → Type 0
ShellFaultsOnce blocks prec other_blocks other_prec =
    (mode other_mode : Mode) (direction other_direction : Direction) (revenue cost : ℕ) (factors other_factors : List ℕ)
    (before after other_before other_after : Progress) (fault second : Fault)
    → GaveAlike blocks other_blocks → GaveAlike prec other_prec → BlamesAText fault.refusal → BlamesAText second.refusal
    → RefusesShellsRun mode direction fault.refusal fault blocks prec revenue cost factors before after
    → RefusesShellsRun other_mode other_direction second.refusal second other_blocks other_prec revenue cost other_factors other_before other_after
    → fault_text fault ≡ fault_text second

-- where `check` is done over the same texts and the certificate that a run of `solve` wrote, it wrote yes
abbrev pub PassesCheck : (files other : Files) (certificate : Reading) → Type 0
PassesCheck files other certificate =
    (before after other_before other_after : Progress) (status : Status)
    → ReadAlike files other → GaveTaken certificate before after
    → IsCertified files before after
    → IsChecked other certificate other_before other_after status
    → (status ≡ Done) × (other_after.bytes ≡ other_before.bytes ++ answer_text true)

-- where a run of `solve` is done that wrote its journal, and `replay` over the same texts and that journal ends without a fault,
-- it wrote the same pit
abbrev pub PassesReplay : (files other : Files) (journal : Reading) → Type 0
PassesReplay files other journal =
    (mode : Mode) (before after pit_before pit_after other_before other_after : Progress) (status other_status : Status)
    → ReadAlike files other → GaveTaken journal before after
    → IsJournaled IsComplete mode files before after → IsDone Least files pit_before pit_after status
    → ReportsReplay other journal other_before other_after other_status
    → TookSame pit_before pit_after other_before other_after × (other_status ≡ status)

-- where a run of `solve` used up its budget, `replay` over the same texts and its journal answers nothing: it is refused by that
-- budget with the same count of mergers, for want of memory, or by a failed read
pub record SpendsReplay (files other : Files) (journal : Reading) : Type 0 where
  pub not_reported :
      (mode : Mode) (count : ℕ) (before after other_before other_after : Progress) (other_status : Status)
      → ReadAlike files other → GaveTaken journal before after
      → IsJournaled (AtBudget count) mode files before after → ReportsReplay other journal other_before other_after other_status → ⊥
  pub refused :
      (mode : Mode) (count : ℕ) (before after other_before other_after : Progress) (fault : Fault)
      → ReadAlike files other → GaveTaken journal before after
      → IsJournaled (AtBudget count) mode files before after → RefusesReplay fault.refusal fault other journal other_before other_after
      → (fault.refusal ≡ Exhausted count) ⊎ IsUnread fault.refusal

-- where a run of `solve` wrote its journal, `replay` over the same texts finds no fault in it; and where that run was done, it is
-- refused for want of memory, or by a failed read or write, alone
pub record TakesReplay (files other : Files) (journal : Reading) : Type 0 where
  pub no_fault :
      (mode : Mode) (before after : Progress) (fixed_mine : FixedInstance) (fault : Fault)
      → ReadAlike files other → GaveTaken journal before after
      → IsJournaled AtAnyEnd mode files before after → GaveInOrder other fixed_mine → RefusesJournal fault.refusal fault fixed_mine journal
      → IsUnread fault.refusal
  pub done :
      (mode : Mode) (before after pit_before pit_after other_before other_after : Progress) (status : Status) (fault : Fault)
      → ReadAlike files other → GaveTaken journal before after
      → IsJournaled IsComplete mode files before after → IsDone Least files pit_before pit_after status
      → RefusesReplay fault.refusal fault other journal other_before other_after
      → IsUnread fault.refusal ⊎ (fault.refusal ≡ WriteFailed)
