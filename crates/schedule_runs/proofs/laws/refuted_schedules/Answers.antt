use Rattle.schedule_runs.proofs.ExampleRefusals.{refuted_schedules}
use Rattle.schedule_runs.proofs.laws.refuted_schedules.Goals as goal

pub returns : goal.returns
returns c = refuted_schedules
