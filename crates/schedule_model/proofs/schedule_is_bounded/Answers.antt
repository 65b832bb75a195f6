use Rattle.schedule_model.proofs.Bounded.{schedule_is_bounded}
use Rattle.schedule_model.proofs.schedule_is_bounded.Goals as goal

pub returns : goal.returns
returns c = schedule_is_bounded
