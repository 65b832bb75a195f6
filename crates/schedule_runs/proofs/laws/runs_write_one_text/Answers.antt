use Rattle.schedule_runs.proofs.OneAnswer.{checks_one_way, checks_and_bounds_one_way, bounds_one_way}
use Rattle.schedule_runs.proofs.laws.runs_write_one_text.Goals as goal

pub returns-clause-check : goal.returns-clause-check
returns-clause-check c = checks_one_way

pub returns-clause-both : goal.returns-clause-both
returns-clause-both c = checks_and_bounds_one_way

pub returns-clause-bound : goal.returns-clause-bound
returns-clause-bound c = bounds_one_way
