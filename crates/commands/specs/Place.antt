-- A place where files are: what its calls do, and how that which stands over its streams counts what went through.
use Rattle.std.specs.Prelude.{◌≡◌, Result, Err}
use Rattle.faults.specs.declared.fault.Fault.{Fault}
use Rattle.minelib_reader.specs.Device.{Progress}
use Rattle.minelib_reader.specs.declared.device.InBytes.{Ghosts as Reader}
use Rattle.minelib_reader.specs.declared.device.OutBytes.{Ghosts as Writer}
use Rattle.minelib_reader.specs.declared.input.FileReader.{FileReader}
use Rattle.minelib_reader.specs.declared.output.StreamWriter.{StreamWriter}
use Rattle.commands.specs.Solve.{Files, files_of}
use Rattle.commands.specs.declared.mine.MineFiles.{MineFiles}
use Rattle.commands.specs.declared.status.Status.{Status}
use Rattle.commands.specs.declared.inputs.InputFiles.{Ghosts as Opening}
use Rattle.commands.specs.declared.outputs.OutputFiles.{Ghosts as Making}

-- a place of inputs, each kind with its streams
pub record InputPlace (F Model Prec Fixed Certificate Journal Blocks : Type 0) : Type 1 where
  pub files : Opening F Model Prec Fixed Certificate Journal Blocks
  pub model : Reader (FileReader Model)
  pub prec : Reader (FileReader Prec)
  pub fixed : Reader (FileReader Fixed)
  pub certificate : Reader (FileReader Certificate)
  pub journal : Reader (FileReader Journal)
  pub blocks : Reader (FileReader Blocks)

-- the writers of a journal and of a certificate
pub record Writers (J C : Type 0) : Type 1 where
  pub journal : Writer J
  pub certificate : Writer C

-- a place of inputs where outputs are made too
pub record OutputPlace (F JournalOut CertificateOut Model Prec Fixed Certificate Journal Blocks : Type 0) : Type 1 where
  pub inputs : InputPlace F Model Prec Fixed Certificate Journal Blocks
  pub files : Making F JournalOut CertificateOut Model Prec Fixed Certificate Journal Blocks
  pub writers : Writers (StreamWriter JournalOut) (StreamWriter CertificateOut)

-- what a call changes: the files, and what standard output has taken
pub record FileState (F : Type 0) : Type 0 where
  pub files : F
  pub out : Progress

abbrev pub file_state : {F : Type 0} → F → Progress → FileState F
file_state files out = record { files = files; out = out }

-- a call ended by a fault before its run: nothing was written
pub record IsNotRun {F : Type 0} (fault : Fault) (old new : FileState F) (result : Result Status Fault) : Type 0 where
  pub unwritten : new.out ≡ old.out
  pub reported : result ≡ Err fault

module _ {F Model Prec Fixed Certificate Journal Blocks : Type 0} where
  -- what the readers of a mine gave
  abbrev pub given :
      InputPlace F Model Prec Fixed Certificate Journal Blocks → MineFiles (FileReader Model) (FileReader Prec) (FileReader Fixed)
      → MineFiles (FileReader Model) (FileReader Prec) (FileReader Fixed) → Files
  given place before after = files_of place.model place.prec place.fixed before after
