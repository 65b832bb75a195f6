-- The exit status of a run.
use Rattle.std.specs.Prelude.{ℕ, Result, Ok, Err}
use Rattle.faults.specs.declared.fault.Fault.{Fault}
use Rattle.faults.specs.declared.refusal.Refusal.{Refusal}
use Rattle.faults.specs.declared.refusal.Refusal.TheVariants.{Exhausted}
use Rattle.commands.specs.declared.status.Status.{Status}
use Rattle.commands.specs.declared.status.Status.TheVariants.{Done, No}

abbrev pub status_of_refusal : Refusal → ℕ
status_of_refusal (Exhausted count) = 3
status_of_refusal _ = 1

abbrev pub status_of : Result Status Fault → ℕ
status_of (Ok Done) = 0
status_of (Ok No) = 4
status_of (Err fault) = status_of_refusal fault.refusal
