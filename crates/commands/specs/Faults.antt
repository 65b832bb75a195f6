-- Why a file could not be opened, and why an output could not be made.
use Rattle.std.specs.Prelude.{◌≡◌, ◌⊎◌}
use Rattle.faults.specs.Refused.{at_line, no_memory, write_failed}
use Rattle.faults.specs.declared.fault.Fault.{Fault}
use Rattle.faults.specs.declared.refusal.Refusal.TheVariants.{ReadFailed}
use Rattle.faults.specs.declared.source.Source.{Source}

-- a file that could not be opened is a read that failed
abbrev pub IsUnopened : Source → Fault → Type 0
IsUnopened source fault = fault ≡ at_line source ReadFailed 0

-- an output was refused, or memory for it
abbrev pub IsUnmade : Fault → Type 0
IsUnmade fault = (fault ≡ write_failed) ⊎ (fault ≡ no_memory)
