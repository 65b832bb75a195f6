-- What a run of `shells` writes, and what it refuses, over the bytes that went through its readers and its writer.
use Rattle.std.specs.Prelude.{◌≡◌, ℕ, List}
use Rattle.minelib_reader.specs.Device.{Progress, Wrote, WroteFront}
use Rattle.faults.specs.Refused.{write_failed}
use Rattle.faults.specs.declared.fault.Fault.{Fault}
use Rattle.faults.specs.declared.refusal.Refusal.{Refusal}
use Rattle.faults.specs.declared.refusal.Refusal.TheVariants.{NoSeat, Exhausted, WriteFailed}
use Rattle.pit_model.specs.declared.shell.Shell.{Shell}
use Rattle.pit_model.specs.declared.direction.Direction.{Direction}
use Rattle.pit_model.specs.Deposit.{Deposit}
use Rattle.pit_model.specs.Shells.{AreShells}
use Rattle.pit_model.specs.ShellText.{shells_text}
use Rattle.solver.specs.declared.mode.Mode.{Mode}
use Rattle.shells.specs.ByMode.{EachEndsWithin, RefusesShells}
use Rattle.commands.specs.Solve.{Reading}
use Rattle.commands.specs.Deposit.{GaveDeposit, RefusesDeposit}
use Rattle.commands.specs.declared.status.Status.{Status}
use Rattle.commands.specs.declared.status.Status.TheVariants.{Done}

-- a text is the text of the shells of a deposit: of its pit toward a direction at each factor
pub record IsShellsText (direction : Direction) (deposit : Deposit) (factors : List ℕ) (text : List ℕ) : Type 0 where
  pub shells : List Shell
  pub are : AreShells direction deposit factors shells
  pub is_text : text ≡ shells_text deposit.blocks shells

-- the readers gave a deposit, and this is the text of its shells
pub record GivesShells (direction : Direction) (blocks prec : Reading) (revenue cost : ℕ) (factors text : List ℕ) : Type 0 where
  pub deposit : Deposit
  pub given : GaveDeposit blocks prec revenue cost deposit
  pub solved : IsShellsText direction deposit factors text

-- exactly the shells' text was written
pub record IsShellsDone (direction : Direction) (blocks prec : Reading) (revenue cost : ℕ) (factors : List ℕ) (before after : Progress) (status : Status) : Type 0 where
  pub done : status ≡ Done
  pub text : List ℕ
  pub gives : GivesShells direction blocks prec revenue cost factors text
  pub wrote : Wrote before after text

-- a beginning of it was written, and then a write failed
pub record IsShellsCut (direction : Direction) (blocks prec : Reading) (revenue cost : ℕ) (factors : List ℕ) (before after : Progress) : Type 0 where
  pub text : List ℕ
  pub gives : GivesShells direction blocks prec revenue cost factors text
  pub wrote : WroteFront before after text

-- this holds of the deposit that the readers gave
abbrev pub HoldsOfDeposit : Reading → Reading → ℕ → ℕ → (Deposit → Type 0) → Type 0
HoldsOfDeposit blocks prec revenue cost Holds = (deposit : Deposit) × GaveDeposit blocks prec revenue cost deposit × Holds deposit

-- why a run ended without shells: nothing was written, but where a write failed, with the budget kept at each factor
abbrev pub RefusesShellsRun : Mode → Direction → Refusal → Fault → Reading → Reading → ℕ → ℕ → List ℕ → Progress → Progress → Type 0
RefusesShellsRun mode direction WriteFailed fault blocks prec revenue cost factors before after =
    (fault ≡ write_failed) × HoldsOfDeposit blocks prec revenue cost (λ deposit. EachEndsWithin mode direction deposit factors)
    × IsShellsCut direction blocks prec revenue cost factors before after
RefusesShellsRun mode direction NoSeat fault blocks prec revenue cost factors before after =
    HoldsOfDeposit blocks prec revenue cost (λ deposit. RefusesShells mode direction deposit factors NoSeat fault) × (after ≡ before)
RefusesShellsRun mode direction (Exhausted count) fault blocks prec revenue cost factors before after =
    HoldsOfDeposit blocks prec revenue cost (λ deposit. RefusesShells mode direction deposit factors (Exhausted count) fault) × (after ≡ before)
RefusesShellsRun mode direction refusal fault blocks prec revenue cost factors before after = RefusesDeposit refusal fault blocks prec revenue cost × (after ≡ before)
