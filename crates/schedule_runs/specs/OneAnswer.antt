-- Runs over the same texts end alike.
use Rattle.std.specs.Prelude.{◌≡◌, ◌≢◌, ℕ, List, ◌++◌}
use Rattle.faults.specs.Refused.{no_memory}
use Rattle.minelib_reader.specs.Device.{Progress}
use Rattle.report.specs.FaultText.{fault_text}
use Rattle.schedule_runs.specs.declared.refused.Refused.{Refused}
use Rattle.schedule_runs.specs.declared.refused.Refused.TheVariants.{NoMemory, Problem, Precedence, Schedule, Prices, WriteFailed}
use Rattle.schedule_runs.specs.declared.verdict.Verdict.{Verdict}
use Rattle.schedule_runs.specs.Refusals.{RefusesBoth, RefusesBoundOf, RefusesTexts}
use Rattle.schedule_runs.specs.Runs.{IsBoundWritten, IsCheckedAndBounded, IsCheckedSchedule}

-- a refusal by what the texts say, and not for lack of memory or by a failed write
abbrev pub BlamesATextFor : Refused → Type 0
BlamesATextFor NoMemory = ⊥
BlamesATextFor WriteFailed = ⊥
BlamesATextFor (Problem fault) = fault ≢ no_memory
BlamesATextFor (Precedence fault) = fault ≢ no_memory
BlamesATextFor (Schedule fault) = fault ≢ no_memory
BlamesATextFor (Prices fault) = fault ≢ no_memory
BlamesATextFor _ = Unit {0}

-- the same refusal; of a cycle the same text
abbrev pub IsSameRefusal : Refused → Refused → Type 0
IsSameRefusal (Precedence fault) (Precedence other) = fault_text fault ≡ fault_text other
IsSameRefusal refusal other = refusal ≡ other

-- both wrote the same text
pub record WroteSame (before after other_before other_after : Progress) : Type 0 where
  pub text : List ℕ
  pub wrote : after.bytes ≡ before.bytes ++ text
  pub wrote_too : other_after.bytes ≡ other_before.bytes ++ text

-- two runs of `check` say the same of a schedule, and wrote the same; so do two with prices, and two of `bound`
abbrev pub ChecksOneWay : Type 0
ChecksOneWay =
    (text precedence schedule : List ℕ) (verdict other : Verdict) (before after other_before other_after : Progress)
    → IsCheckedSchedule text precedence schedule verdict before after → IsCheckedSchedule text precedence schedule other other_before other_after
    → (verdict ≡ other) × WroteSame before after other_before other_after

abbrev pub ChecksAndBoundsOneWay : Type 0
ChecksAndBoundsOneWay =
    (text precedence schedule prices : List ℕ) (verdict other : Verdict) (before after other_before other_after : Progress)
    → IsCheckedAndBounded text precedence schedule prices verdict before after → IsCheckedAndBounded text precedence schedule prices other other_before other_after
    → (verdict ≡ other) × WroteSame before after other_before other_after

abbrev pub BoundsOneWay : Type 0
BoundsOneWay =
    (text precedence prices : List ℕ) (before after other_before other_after : Progress)
    → IsBoundWritten text precedence prices before after → IsBoundWritten text precedence prices other_before other_after
    → WroteSame before after other_before other_after

-- if a run answers, no run over the same texts blames one of them
abbrev pub CheckedIsBlameless : Type 0
CheckedIsBlameless =
    (text precedence schedule : List ℕ) (verdict : Verdict) (before after : Progress) (refusal : Refused)
    → IsCheckedSchedule text precedence schedule verdict before after → RefusesTexts text precedence schedule refusal → BlamesATextFor refusal → ⊥

abbrev pub CheckedAndBoundedIsBlameless : Type 0
CheckedAndBoundedIsBlameless =
    (text precedence schedule prices : List ℕ) (verdict : Verdict) (before after : Progress) (refusal : Refused)
    → IsCheckedAndBounded text precedence schedule prices verdict before after → RefusesBoth text precedence schedule prices refusal → BlamesATextFor refusal → ⊥

abbrev pub BoundedIsBlameless : Type 0
BoundedIsBlameless =
    (text precedence prices : List ℕ) (before after : Progress) (refusal : Refused)
    → IsBoundWritten text precedence prices before after → RefusesBoundOf text precedence prices refusal → BlamesATextFor refusal → ⊥

-- two runs over the same texts that blame one of them are refused in the same way
abbrev pub CheckIsRefusedOnce : Type 0
CheckIsRefusedOnce =
    (text precedence schedule : List ℕ) (refusal other : Refused) → BlamesATextFor refusal → BlamesATextFor other
    → RefusesTexts text precedence schedule refusal → RefusesTexts text precedence schedule other → IsSameRefusal refusal other

abbrev pub CheckAndBoundIsRefusedOnce : Type 0
CheckAndBoundIsRefusedOnce =
    (text precedence schedule prices : List ℕ) (refusal other : Refused) → BlamesATextFor refusal → BlamesATextFor other
    → RefusesBoth text precedence schedule prices refusal → RefusesBoth text precedence schedule prices other → IsSameRefusal refusal other

abbrev pub BoundIsRefusedOnce : Type 0
BoundIsRefusedOnce =
    (text precedence prices : List ℕ) (refusal other : Refused) → BlamesATextFor refusal → BlamesATextFor other
    → RefusesBoundOf text precedence prices refusal → RefusesBoundOf text precedence prices other → IsSameRefusal refusal other
