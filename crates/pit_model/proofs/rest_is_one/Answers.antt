use Rattle.pit_model.proofs.OneRest.{rest_is_one}
use Rattle.pit_model.proofs.rest_is_one.Goals as goal

pub returns : goal.returns
returns c = rest_is_one
