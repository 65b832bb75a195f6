-- The exit status of a command.
use Rattle.std.specs.Prelude.{ℕ, Option, Some, None, Result, Ok, Err}
use Rattle.schedule_runs.specs.declared.refused.Refused.{Refused}
use Rattle.schedule_runs.specs.declared.verdict.Verdict.{Verdict}
use Rattle.schedule_runs.specs.declared.verdict.Verdict.TheVariants.{Schedule}

abbrev pub verdict_status : Verdict → ℕ
verdict_status (Schedule value whole) = 0
verdict_status _ = 4

-- of a command with a verdict, or without one
abbrev pub exit_status : Result (Option Verdict) Refused → ℕ
exit_status (Ok None) = 0
exit_status (Ok (Some verdict)) = verdict_status verdict
exit_status (Err refused) = 1
