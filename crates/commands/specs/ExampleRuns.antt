-- Examples of a writer that a run may have or not, and of files that could not be opened or made.
use Rattle.std.specs.Prelude.{◌≡◌, ◌⊎◌, ℕ, ◌++◌, List, Some, None, Err, codes}
use Rattle.faults.specs.declared.fault.Fault.{Fault}
use Rattle.faults.specs.declared.source.Source.TheVariants as sources
use Rattle.minelib_reader.specs.Device.{Progress}
use Rattle.report.specs.FaultText.{fault_text}
use Rattle.commands.specs.Chosen.{chosen, OfWriterIfAny}
use Rattle.commands.specs.Exit.{status_of}
use Rattle.commands.specs.Faults.{IsUnmade, IsUnopened}

-- a writer took these bytes
abbrev pub TookYes : Progress → Progress → Type 0
TookYes before after = after.bytes ≡ before.bytes ++ codes "yes"

-- a writer that is there took the bytes; one that is missing needs to take none; and none comes or goes
pub record WritersOfChoice : Type 0 where
  pub there : (before after : Progress) → OfWriterIfAny (chosen (λ (p : Progress). p) (Some before) (Some after)) TookYes → TookYes before after
  pub missing : OfWriterIfAny (chosen (λ (p : Progress). p) None None) TookYes
  pub gone : (before : Progress) → OfWriterIfAny (chosen (λ (p : Progress). p) (Some before) None) TookYes → ⊥
  pub come : (after : Progress) → OfWriterIfAny (chosen (λ (p : Progress). p) None (Some after)) TookYes → ⊥

-- the text and the exit status of a fault
pub record Reports (fault : Fault) (text : List ℕ) (status : ℕ) : Type 0 where
  pub text_is : fault_text fault ≡ text
  pub status_is : status_of (Err fault) ≡ status

-- a model that could not be opened, and an output that could not be made
pub record FilesThatFail : Type 0 where
  pub unopened : (fault : Fault) → IsUnopened sources.Model fault → Reports fault (codes "error 2: read failed in model\n") 1
  pub unmade : (fault : Fault) → IsUnmade fault → Reports fault (codes "error 18: write failed\n") 1 ⊎ Reports fault (codes "error 1: no memory\n") 1
