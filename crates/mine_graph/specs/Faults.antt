-- Why pairs are no graph.
use Rattle.std.specs.Prelude.{◌≡◌, ℕ, List}
use Rattle.pit_model.specs.Cycle.{IsCycleList}
use Rattle.faults.specs.declared.fault.Fault.{Fault}
use Rattle.faults.specs.declared.refusal.Refusal.{Refusal}
use Rattle.faults.specs.declared.refusal.Refusal.TheVariants.{NoMemory, Cycle}
use Rattle.faults.specs.declared.source.Source.TheVariants.{Precedence}
use Rattle.faults.specs.Refused.{no_memory}

-- no memory; or the cycle of the pairs, which lies in the precedence file and on no line of it
abbrev pub RefusesPairs : List (ℕ × ℕ) → ℕ → Refusal → Fault → Type 0
RefusesPairs pairs n NoMemory fault = fault ≡ no_memory
RefusesPairs pairs n (Cycle list) fault = IsCycleList pairs n list.items × (fault.source ≡ Precedence) × (fault.line ≡ 0)
RefusesPairs pairs n _ fault = ⊥

abbrev pub IsGraphFault : List (ℕ × ℕ) → ℕ → Fault → Type 0
IsGraphFault pairs n fault = RefusesPairs pairs n fault.refusal fault
