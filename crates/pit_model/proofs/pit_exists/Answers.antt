use Rattle.pit_model.proofs.Existence.{pit_exists}
use Rattle.pit_model.proofs.pit_exists.Goals as goal

pub returns : goal.returns
returns c = pit_exists
