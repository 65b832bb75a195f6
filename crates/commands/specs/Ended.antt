-- How a call ends: what is told on standard error, and the exit status.
use Rattle.std.specs.Prelude.{◌≡◌, ℕ, Result, Ok, Err}
use Rattle.faults.specs.declared.fault.Fault.{Fault}
use Rattle.minelib_reader.specs.Device.{Progress, Writes}
use Rattle.report.specs.FaultText.{fault_text}
use Rattle.commands.specs.Exit.{status_of}
use Rattle.commands.specs.declared.status.Status.{Status}

-- a fault's text was told, or a beginning of it, and then a write failed; where there is no fault, nothing was told
abbrev pub Tells : Result Status Fault → Progress → Progress → Type 0
Tells (Ok status) before after = after ≡ before
Tells (Err fault) before after = (written : Result (Unit {0}) Fault) × Writes before after (fault_text fault) written

-- a run had an outcome of which this is said: it was told, and this is its exit status
pub record Ended (code : ℕ) (before after : Progress) (Ends : Result Status Fault → Type 0) : Type 0 where
  pub outcome : Result Status Fault
  pub ends : Ends outcome
  pub status : code ≡ status_of outcome
  pub reported : Tells outcome before after
