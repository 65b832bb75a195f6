-- The examples of writers of choice and of faults, by cases and by computing.
use Rattle.std.proofs.Common.{◌≡◌, inl, inr, refl, ap, subst}
use Rattle.std.specs.Prelude.{◌⊎◌, Option, Some, None, Err, codes}
use Rattle.std.specs.Fmt.{digits}
use Rattle.faults.specs.declared.fault.Fault.{Fault}
use Rattle.faults.specs.declared.source.Source.TheVariants as sources
use Rattle.minelib_reader.specs.Device.{Progress}
use Rattle.report.specs.FaultText.{detail_of, fault_text, place_text}
use Rattle.commands.specs.Chosen.{chosen, OfWriterIfAny}
use Rattle.commands.specs.Exit.{status_of}
use Rattle.commands.specs.ExampleRuns.{FilesThatFail, Reports, TookYes, WritersOfChoice}
use Rattle.commands.specs.Faults.{IsUnmade, IsUnopened}

-- ---- writers of choice

abbrev IsThere : Option Progress → Type 0
IsThere None = ⊥
IsThere (Some p) = Unit {0}

not_missing : (p : Progress) → Some p ≡ None → ⊥
not_missing p e = subst IsThere e tt

there : (before after : Progress) → OfWriterIfAny (chosen (λ (p : Progress). p) (Some before) (Some after)) TookYes → TookYes before after
there before after (inl missing) = absurd (not_missing before missing.0)
there before after (inr took) = took

gone : (before : Progress) → OfWriterIfAny (chosen (λ (p : Progress). p) (Some before) None) TookYes → ⊥
gone before (inl missing) = not_missing before missing.0
gone before (inr took) = took

come : (after : Progress) → OfWriterIfAny (chosen (λ (p : Progress). p) None (Some after)) TookYes → ⊥
come after (inl missing) = not_missing after missing.1
come after (inr took) = took

pub writers_of_choice : WritersOfChoice
writers_of_choice = record { there = there; missing = inl (refl, refl); gone = gone; come = come }

-- ---- files

unopened : (fault : Fault) → IsUnopened sources.Model fault → Reports fault (codes "error 2: read failed in model\n") 1
unfolding fault_text detail_of place_text digits
unopened fault e = record { text_is = ap fault_text e; status_is = ap (λ (f : Fault). status_of (Err f)) e }

unmade : (fault : Fault) → IsUnmade fault → Reports fault (codes "error 18: write failed\n") 1 ⊎ Reports fault (codes "error 1: no memory\n") 1
unfolding fault_text detail_of place_text digits
unmade fault (inl e) = inl (record { text_is = ap fault_text e; status_is = ap (λ (f : Fault). status_of (Err f)) e })
unmade fault (inr e) = inr (record { text_is = ap fault_text e; status_is = ap (λ (f : Fault). status_of (Err f)) e })

pub files_that_fail : FilesThatFail
files_that_fail = record { unopened = unopened; unmade = unmade }
