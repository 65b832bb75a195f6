-- A run whose write failed wrote a beginning of the text that a done run over the same texts writes.
use Rattle.std.specs.Prelude.{◌≡◌, ℕ, ◌+◌, ◌++◌, List}
use Rattle.minelib_reader.specs.Device.{Progress, WroteFront}
use Rattle.pit_model.specs.declared.direction.Direction.{Direction}
use Rattle.commands.specs.Check.{IsAnswerCut, IsChecked}
use Rattle.commands.specs.Replay.{IsReplayCut, ReportsReplay}
use Rattle.commands.specs.ShellsRun.{IsShellsCut, IsShellsDone}
use Rattle.commands.specs.Solve.{Files, Reading, IsCutShort, IsDone}
use Rattle.commands.specs.Uniqueness.{GaveAlike, ReadAlike}
use Rattle.commands.specs.declared.status.Status.{Status}

-- a writer took a beginning of the text that another writer took, and then failed once
pub record TookBeginning (before after other_before other_after : Progress) : Type 0 where
  pub text : List ℕ
  pub front : WroteFront before after text
  pub whole : other_after.bytes ≡ other_before.bytes ++ text

-- two runs of `solve` toward one direction
abbrev pub CutsPit : (files other : Files) → Type 0
CutsPit files other =
    (direction : Direction) (before after other_before other_after : Progress) (status : Status)
    → ReadAlike files other → IsCutShort direction files before after → IsDone direction other other_before other_after status
    → TookBeginning before after other_before other_after

-- two runs of `shells` with the same columns and factors, toward one direction
abbrev pub CutsShells : (blocks prec other_blocks other_prec : Reading) → Type 0
CutsShells blocks prec other_blocks other_prec =
    (direction : Direction) (revenue cost : ℕ) (factors : List ℕ) (before after other_before other_after : Progress) (status : Status)
    → GaveAlike blocks other_blocks → GaveAlike prec other_prec
    → IsShellsCut direction blocks prec revenue cost factors before after
    → IsShellsDone direction other_blocks other_prec revenue cost factors other_before other_after status
    → TookBeginning before after other_before other_after

-- two runs of `check`
abbrev pub CutsAnswer : (files other : Files) (certificate other_certificate : Reading) → Type 0
CutsAnswer files other certificate other_certificate =
    (before after other_before other_after : Progress) (status : Status)
    → ReadAlike files other → GaveAlike certificate other_certificate
    → IsAnswerCut files certificate before after
    → IsChecked other other_certificate other_before other_after status
    → TookBeginning before after other_before other_after

-- two runs of `replay`
abbrev pub CutsReplay : (files other : Files) (journal other_journal : Reading) → Type 0
CutsReplay files other journal other_journal =
    (before after other_before other_after : Progress) (status : Status)
    → ReadAlike files other → GaveAlike journal other_journal
    → IsReplayCut files journal before after
    → ReportsReplay other other_journal other_before other_after status
    → TookBeginning before after other_before other_after
