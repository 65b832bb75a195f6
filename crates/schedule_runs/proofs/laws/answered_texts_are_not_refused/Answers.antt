use Rattle.schedule_runs.proofs.OneAnswer.{checked_is_blameless, checked_and_bounded_is_blameless, bounded_is_blameless}
use Rattle.schedule_runs.proofs.laws.answered_texts_are_not_refused.Goals as goal

pub returns-clause-check : goal.returns-clause-check
returns-clause-check c = checked_is_blameless

pub returns-clause-both : goal.returns-clause-both
returns-clause-both c = checked_and_bounded_is_blameless

pub returns-clause-bound : goal.returns-clause-bound
returns-clause-bound c = bounded_is_blameless
