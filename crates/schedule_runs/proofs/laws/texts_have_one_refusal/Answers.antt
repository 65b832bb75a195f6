use Rattle.schedule_runs.proofs.OneAnswer.{check_is_refused_once, check_and_bound_is_refused_once, bound_is_refused_in_one_way}
use Rattle.schedule_runs.proofs.laws.texts_have_one_refusal.Goals as goal

pub returns-clause-check : goal.returns-clause-check
returns-clause-check c = check_is_refused_once

pub returns-clause-both : goal.returns-clause-both
returns-clause-both c = check_and_bound_is_refused_once

pub returns-clause-bound : goal.returns-clause-bound
returns-clause-bound c = bound_is_refused_in_one_way
