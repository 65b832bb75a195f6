-- The first fault of a text: each place of it has a fault or none, and the least place that has one says which.
use Rattle.std.specs.Prelude.{◌≡◌, ℕ, ◌<◌, Option, None, Some}
use Rattle.faults.specs.declared.fault.Fault.{Fault}

pub record IsFirstFault (fault_at : ℕ → Option Fault) (fault : Fault) : Type 0 where
  pub place : ℕ
  pub none_before : (k : ℕ) → k < place → fault_at k ≡ None
  pub here : fault_at place ≡ Some fault
