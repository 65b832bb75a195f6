use Rattle.pit_model.proofs.Fixed.{rest_gives_pit}
use Rattle.pit_model.proofs.rest_gives_pit.Goals as goal

pub returns : goal.returns
returns c = rest_gives_pit
