-- The calls over the files of a mine and one more: `check` over a certificate, and `replay` over a journal.
use Rattle.std.specs.Prelude.{ℕ, List, Option, Result, Ok, Err}
use Rattle.std.specs.Io.KnownBytes.{Keeps}
use Rattle.faults.specs.declared.fault.Fault.{Fault}
use Rattle.faults.specs.declared.source.Source.{Source}
use Rattle.faults.specs.declared.source.Source.TheVariants as sources
use Rattle.minelib_reader.specs.Device.{Progress}
use Rattle.minelib_reader.specs.declared.device.InBytes.{Ghosts as Reader}
use Rattle.minelib_reader.specs.declared.input.FileReader.{FileReader}
use Rattle.commands.specs.Check.{IsChecked, RefusesCheck}
use Rattle.commands.specs.Kept.{KeepsTexts}
use Rattle.commands.specs.Replay.{ReportsReplay, RefusesReplay}
use Rattle.commands.specs.Solve.{Files, Reading, given_by}
use Rattle.commands.specs.declared.mine.MineFiles.{MineFiles}
use Rattle.commands.specs.declared.status.Status.{Status}
use Rattle.commands.specs.declared.options.CheckOptions.{CheckOptions}
use Rattle.commands.specs.declared.options.MineNames.{MineNames}
use Rattle.commands.specs.declared.options.ReplayOptions.{ReplayOptions}
use Rattle.commands.specs.Faults.{IsUnopened}
use Rattle.commands.specs.Opened.{AreFromFront, IsFromFront, LacksMine, MineTexts, OpensMine}
use Rattle.commands.specs.Place.{InputPlace, IsNotRun, FileState, given}

-- how a run of `check` ends
abbrev pub RunsCheck : Files → Reading → Progress → Progress → Result Status Fault → Type 0
RunsCheck files certificate before after (Ok status) = IsChecked files certificate before after status
RunsCheck files certificate before after (Err e) = RefusesCheck e.refusal e files certificate before after

-- how a run of `replay` ends
abbrev pub RunsReplay : Files → Reading → Progress → Progress → Result Status Fault → Type 0
RunsReplay files journal before after (Ok status) = ReportsReplay files journal before after status
RunsReplay files journal before after (Err e) = RefusesReplay e.refusal e files journal before after

-- the names of a mine and of the file behind it; what that is, how its reader counts, and how a run over all of them ends
pub record Over (S : Type 0) : Type 1 where
  pub mine : MineNames
  pub last : List ℕ
  pub source : Source
  pub reader : Reader S
  pub Runs : Files → Reading → Progress → Progress → Result Status Fault → Type 0

module _ {F Model Prec Fixed Certificate Journal Blocks : Type 0} where
  -- a file could not be opened, and nothing else was done; or the files of a mine were opened, and then the one behind them, and
  -- the run was over the readers of these, from their fronts
  pub data EndsOver {S : Type 0} (place : InputPlace F Model Prec Fixed Certificate Journal Blocks) (call : Over S) (old new : FileState F) (result : Result Status Fault) : Type 0 where
    no_mine : (fault : Fault) → LacksMine place.files call.mine fault old.files new.files → IsNotRun fault old new result → EndsOver place call old new result
    no_last : (fault : Fault) (texts : MineTexts) (f : F) → OpensMine place.files call.mine texts old.files f → IsUnopened call.source fault → place.files.lacks f call.last call.source new.files
        → IsNotRun fault old new result → EndsOver place call old new result
    ran : (f : F) (texts : MineTexts) (text : Option (List ℕ)) (mine read : MineFiles (FileReader Model) (FileReader Prec) (FileReader Fixed)) (s t : S)
        → OpensMine place.files call.mine texts old.files f → place.files.opens f call.last call.source text new.files
        → AreFromFront place call.mine texts mine → IsFromFront call.reader.progress call.reader.known_text text s
        → KeepsTexts place.model.known_text place.prec.known_text place.fixed.known_text mine read → Keeps (call.reader.known_text s) (call.reader.known_text t)
        → call.Runs (given place mine read) (given_by call.reader s t) old.out new.out result
        → EndsOver place call old new result

  -- how a call of `check` ends
  abbrev pub EndsCheck : InputPlace F Model Prec Fixed Certificate Journal Blocks → CheckOptions → FileState F → FileState F → Result Status Fault → Type 0
  EndsCheck place options old new result = EndsOver place (record {
    mine = options.mine;
    last = options.certificate.now;
    source = sources.Certificate;
    reader = place.certificate;
    Runs = RunsCheck;
  }) old new result

  -- how a call of `replay` ends
  abbrev pub EndsReplayCall : InputPlace F Model Prec Fixed Certificate Journal Blocks → ReplayOptions → FileState F → FileState F → Result Status Fault → Type 0
  EndsReplayCall place options old new result = EndsOver place (record {
    mine = options.mine;
    last = options.journal.now;
    source = sources.Journal;
    reader = place.journal;
    Runs = RunsReplay;
  }) old new result
