use Rattle.schedule_runs.proofs.ExampleRefusals.{limits_of_problems}
use Rattle.schedule_runs.proofs.laws.limits_of_problems.Goals as goal

pub returns : goal.returns
returns c = limits_of_problems
