-- How a run of `solve` ends, over the bytes that went through its readers and its writers.
use Rattle.std.specs.Prelude.{◌≡◌, ◌⊎◌, Option, None, Ok, Err}
use Rattle.minelib_reader.specs.Device.{Progress}
use Rattle.faults.specs.Refused.{exhausted, no_seat, write_failed}
use Rattle.faults.specs.declared.fault.Fault.{Fault}
use Rattle.faults.specs.declared.refusal.Refusal.{Refusal}
use Rattle.faults.specs.declared.refusal.Refusal.TheVariants.{NoSeat, Exhausted, WriteFailed}
use Rattle.pit_model.specs.declared.direction.Direction.{Direction}
use Rattle.pit_model.specs.declared.direction.Direction.TheVariants.{Least}
use Rattle.pit_model.specs.Mine.{Instance}
use Rattle.pit_model.specs.Replay.{IsComplete}
use Rattle.optimality.specs.Certificate.{IsFixedCertificateOf}
use Rattle.merging.specs.declared.outcome.Outcome.{Outcome}
use Rattle.merging.specs.declared.outcome.Outcome.TheVariants as outcomes
use Rattle.solver.specs.declared.mode.Mode.{Mode}
use Rattle.solver.specs.Modes.{EndsWithin, IsShared, LacksRoom, RunsOut}
use Rattle.pit_search.specs.Searched.{OfSearched}
use Rattle.solver.specs.Searched.{RefusesSearch}
use Rattle.commands.specs.declared.options.SolveSettings.{SolveSettings}
use Rattle.commands.specs.Solve.{Files, FixedInstance, HoldsMine, RefusesMine, IsCutShort, fixed_in}
use Rattle.commands.specs.Chosen.{Chosen, IsCountable, IsLeft, OfWriter, OfWriterIfAny, progress_of}
use Rattle.commands.specs.Certified.{PutsCertificate, IsCertified, IsCertificateCut}
use Rattle.commands.specs.Journaled.{AtAnyEnd, AtBudget, EndOf, MayJournal, PutsJournal, IsJournaled, IsJournalCut}

-- what the command line asks for
abbrev pub settings_of : Mode → Direction → SolveSettings
settings_of mode pit = record { mode = mode; pit = pit }

-- this holds of the instance that is searched for the pit of the mine that the readers gave
abbrev pub HoldsOfSearched : Direction → Files → (Instance → Type 0) → Type 0
HoldsOfSearched direction files Holds = (fixed_mine : FixedInstance) × HoldsMine files fixed_mine × OfSearched direction fixed_mine.mine (fixed_in fixed_mine) Holds

-- the writers of a solve may be called; mode shared alone has one of a journal, and the least pit alone one of either
pub record MayWrite {J C : Type 0} (journal : J → Progress) (certificate : C → Progress) (settings : SolveSettings) (journal_writer : Option J) (certificate_writer : Option C) : Type 0 where
  pub journal_countable : IsCountable (progress_of journal journal_writer)
  pub certificate_countable : IsCountable (progress_of certificate certificate_writer)
  pub may_journal : MayJournal settings.mode (progress_of journal journal_writer)
  pub may_record : (settings.pit ≡ Least) ⊎ ((progress_of journal journal_writer ≡ None) × (progress_of certificate certificate_writer ≡ None))

-- nothing was written
pub record IsUnwritten (journal certificate : Chosen) (before after : Progress) : Type 0 where
  pub no_journal : IsLeft journal
  pub no_certificate : IsLeft certificate
  pub no_pit : after ≡ before

-- the solve came to its pit within the budget, with the whole journal written, where that is wanted
pub record CameToPit (settings : SolveSettings) (files : Files) (journal : Chosen) : Type 0 where
  pub within : HoldsOfSearched settings.pit files (EndsWithin settings.mode)
  pub journaled : OfWriterIfAny journal (IsJournaled IsComplete settings.mode files)

-- where a write failed: in the journal, of which a beginning was written, and nothing else; or, where the solve came to its pit,
-- in the certificate, or in the pit's text behind the whole certificate. Each is there where it is wanted
pub data WasCutShort (settings : SolveSettings) (files : Files) (journal certificate : Chosen) (before after : Progress) : Type 0 where
  in_journal : OfWriter journal (IsJournalCut settings.mode files) → IsLeft certificate → after ≡ before → WasCutShort settings files journal certificate before after
  in_certificate : CameToPit settings files journal → OfWriter certificate (IsCertificateCut files) → after ≡ before → WasCutShort settings files journal certificate before after
  in_pit : CameToPit settings files journal → OfWriterIfAny certificate (IsCertified files) → IsCutShort settings.pit files before after → WasCutShort settings files journal certificate before after

-- why no pit of a mine was found: a write failed in the journal, or in the certificate behind it, with the budget kept; the
-- budget is used up, of which the journal was written; or the solve lacked room, and nothing was written
abbrev pub RefusesPit : Mode → Direction → FixedInstance → Refusal → Fault → Chosen → Chosen → Type 0
RefusesPit mode direction fixed_mine WriteFailed fault journal certificate =
    (PutsJournal AtAnyEnd mode fixed_mine journal (Err fault) × IsLeft certificate)
    ⊎ (OfSearched direction fixed_mine.mine (fixed_in fixed_mine) (EndsWithin mode) × PutsJournal IsComplete mode fixed_mine journal (Ok tt) × PutsCertificate fixed_mine certificate (Err fault))
RefusesPit mode direction fixed_mine (Exhausted count) fault journal certificate =
    RefusesSearch mode direction fixed_mine.mine (fixed_in fixed_mine) (Exhausted count) fault × PutsJournal (AtBudget count) mode fixed_mine journal (Ok tt) × IsLeft certificate
RefusesPit mode direction fixed_mine refusal fault journal certificate = LacksRoom mode refusal fault × IsLeft journal × IsLeft certificate

-- why a solve gave no outcome: a write failed in the journal; or it lacked room, and nothing was written
abbrev pub RefusesOutcome : Mode → FixedInstance → Refusal → Fault → Chosen → Type 0
RefusesOutcome mode fixed_mine WriteFailed fault journal = PutsJournal AtAnyEnd mode fixed_mine journal (Err fault)
RefusesOutcome mode fixed_mine refusal fault journal = LacksRoom mode refusal fault × IsLeft journal

-- how a solve in a mode ended: with a certificate of the mine, or with a budget that the rest uses up
abbrev pub EndsSolve : Mode → FixedInstance → Outcome → Type 0
EndsSolve mode fixed_mine (outcomes.Pit certificate) = IsFixedCertificateOf fixed_mine.mine (fixed_in fixed_mine) certificate × OfSearched Least fixed_mine.mine (fixed_in fixed_mine) (EndsWithin mode)
EndsSolve mode fixed_mine (outcomes.Exhausted count) = OfSearched Least fixed_mine.mine (fixed_in fixed_mine) (λ rest. RunsOut mode rest count)

-- how a solve ended whose journal was written, where that is wanted
abbrev pub EndsJournaled : Mode → FixedInstance → Chosen → Outcome → Type 0
EndsJournaled mode fixed_mine journal outcome = EndsSolve mode fixed_mine outcome × PutsJournal (EndOf outcome) mode fixed_mine journal (Ok tt)

-- why a run ended without a pit: nothing was written, but where a write failed, and where the budget is used up, of which the
-- journal was written
abbrev pub RefusesRun : SolveSettings → Refusal → Fault → Files → Chosen → Chosen → Progress → Progress → Type 0
RefusesRun settings WriteFailed fault files journal certificate before after = (fault ≡ write_failed) × WasCutShort settings files journal certificate before after
RefusesRun settings NoSeat fault files journal certificate before after =
    (fault ≡ no_seat) × IsShared settings.mode × ((fixed_mine : FixedInstance) × HoldsMine files fixed_mine) × IsUnwritten journal certificate before after
RefusesRun settings (Exhausted count) fault files journal certificate before after =
    (fault ≡ exhausted count) × HoldsOfSearched settings.pit files (λ searched. RunsOut settings.mode searched count)
    × OfWriterIfAny journal (IsJournaled (AtBudget count) settings.mode files) × IsLeft certificate × (after ≡ before)
RefusesRun settings refusal fault files journal certificate before after = RefusesMine refusal fault files × IsUnwritten journal certificate before after
