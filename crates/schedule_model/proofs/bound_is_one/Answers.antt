use Rattle.schedule_model.proofs.OneBound.{bound_is_one}
use Rattle.schedule_model.proofs.bound_is_one.Goals as goal

pub returns : goal.returns
returns c = bound_is_one
