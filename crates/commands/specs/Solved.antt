-- The call of `solve`: the files of a mine are opened, the outputs beside the pit are made, the run is over both, and then these
-- outputs are ended.
use Rattle.std.specs.Prelude.{◌≡◌, ℕ, Bool, List, Option, None, Some, Result, Ok, Err, is_some}
use Rattle.faults.specs.declared.fault.Fault.{Fault}
use Rattle.minelib_reader.specs.Device.{Progress, unread}
use Rattle.minelib_reader.specs.declared.device.OutBytes.{Ghosts as Writer}
use Rattle.minelib_reader.specs.declared.input.FileReader.{FileReader}
use Rattle.minelib_reader.specs.declared.output.StreamWriter.{StreamWriter}
use Rattle.pit_model.specs.Replay.{IsComplete}
use Rattle.solver.specs.Modes.{EndsWithin}
use Rattle.commands.specs.Certified.{IsCertified}
use Rattle.commands.specs.Chosen.{Chosen, chosen, OfWriterIfAny}
use Rattle.commands.specs.Journaled.{IsJournaled}
use Rattle.commands.specs.Kept.{KeepsTexts}
use Rattle.commands.specs.Run.{HoldsOfSearched, RefusesRun}
use Rattle.commands.specs.Solve.{Files, IsDone}
use Rattle.commands.specs.declared.options.SolveSettings.{SolveSettings}
use Rattle.commands.specs.declared.mine.MineFiles.{MineFiles}
use Rattle.commands.specs.declared.status.Status.{Status}
use Rattle.commands.specs.declared.options.SolveOptions.{SolveOptions}
use Rattle.commands.specs.Faults.{IsUnmade}
use Rattle.commands.specs.Opened.{AreFromFront, LacksMine, MineTexts, OpensMine, known_if_any}
use Rattle.commands.specs.Place.{IsNotRun, OutputPlace, FileState, Writers, given}
use Rattle.commands.specs.Made.{EndsOutputs, OutputContents, MakesOutputs, SparesOutputs, Wanted, finished, output_contents, wanted_by}

-- a run of `solve`: what was asked, what its readers gave, and what standard output had taken before it and after it
pub record SolveCourse : Type 1 where
  pub settings : SolveSettings
  pub files : Files
  pub before : Progress
  pub after : Progress

-- how it ends, over these writers of its journal and certificate
abbrev pub RunsSolve : SolveCourse → Chosen → Chosen → Result Status Fault → Type 0
RunsSolve run journal certificate (Ok status) =
    IsDone run.settings.pit run.files run.before run.after status
    × OfWriterIfAny journal (IsJournaled IsComplete run.settings.mode run.files)
    × OfWriterIfAny certificate (IsCertified run.files)
    × HoldsOfSearched run.settings.pit run.files (EndsWithin run.settings.mode)
RunsSolve run journal certificate (Err e) = RefusesRun run.settings e.refusal e run.files journal certificate run.before run.after

abbrev pub IsUnwrittenIfAny : {W : Type 0} → (W → Progress) → Option W → Type 0
IsUnwrittenIfAny progress None = Unit {0}
IsUnwrittenIfAny progress (Some writer) = progress writer ≡ unread 0

-- nothing was written yet to the writer of choice, which is there where it is wanted, and what is known to be in its output is this
pub record IsNew {W : Type 0} (device : Writer W) (wanted : Bool) (holds : Option (List ℕ)) (writer : Option W) : Type 0 where
  pub unwritten : IsUnwrittenIfAny device.progress writer
  pub named : is_some writer ≡ wanted
  pub known : known_if_any device.known_content writer ≡ holds

-- the writers of a journal and of a certificate, as a run found them and as it left them
pub record Written (J C : Type 0) : Type 0 where
  pub journal : Option J
  pub journal_left : Option J
  pub certificate : Option C
  pub certificate_left : Option C

-- a run over new writers of outputs that were made so, where these are wanted
pub record RunsOverNew {J C : Type 0} (writers : Writers J C) (run : SolveCourse) (wanted : Wanted) (made : OutputContents) (written : Written J C) (result : Result Status Fault) : Type 0 where
  pub journal_new : IsNew writers.journal (is_some wanted.journal) made.journal written.journal
  pub certificate_new : IsNew writers.certificate (is_some wanted.certificate) made.certificate written.certificate
  pub runs : RunsSolve run (chosen writers.journal.progress written.journal written.journal_left) (chosen writers.certificate.progress written.certificate written.certificate_left) result

-- what is known to be in the outputs when a run has left them
abbrev pub left_in : {J C : Type 0} → Writers J C → Written J C → OutputContents
left_in writers written = output_contents (known_if_any writers.journal.known_content written.journal_left) (known_if_any writers.certificate.known_content written.certificate_left)

module _ {F JournalOut CertificateOut Model Prec Fixed Certificate Journal Blocks : Type 0} where
  -- a file could not be opened, or an output could not be made, and nothing was run; or all were, the run was over the readers
  -- from their fronts and the new outputs, and then these were ended as it left them
  pub data EndsSolveCall (place : OutputPlace F JournalOut CertificateOut Model Prec Fixed Certificate Journal Blocks) (options : SolveOptions) (old new : FileState F) (result : Result Status Fault) : Type 0 where
    unopened : (fault : Fault) → LacksMine place.inputs.files options.mine fault old.files new.files → IsNotRun fault old new result → EndsSolveCall place options old new result
    unmade : (fault : Fault) (texts : MineTexts) (f : F) → OpensMine place.inputs.files options.mine texts old.files f
        → IsUnmade fault → SparesOutputs place.files (wanted_by options) f new.files → IsNotRun fault old new result → EndsSolveCall place options old new result
    solved : (outcome : Result Status Fault) (texts : MineTexts) (made : OutputContents) (written : Written (StreamWriter JournalOut) (StreamWriter CertificateOut)) (f g : F) (mine read : MineFiles (FileReader Model) (FileReader Prec) (FileReader Fixed))
        → OpensMine place.inputs.files options.mine texts old.files f
        → MakesOutputs place.files (wanted_by options) made f g
        → AreFromFront place.inputs options.mine texts mine
        → KeepsTexts place.inputs.model.known_text place.inputs.prec.known_text place.inputs.fixed.known_text mine read
        → RunsOverNew place.writers (record { settings = options.settings; files = given place.inputs mine read; before = old.out; after = new.out }) (wanted_by options) made written outcome
        → EndsOutputs place.files (finished outcome (is_some (wanted_by options).journal) (is_some (wanted_by options).certificate) (left_in place.writers written)) result g new.files
        → EndsSolveCall place options old new result
