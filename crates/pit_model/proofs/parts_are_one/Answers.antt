use Rattle.pit_model.proofs.OneEnd.{parts_are_one}
use Rattle.pit_model.proofs.parts_are_one.Goals as goal

pub returns : goal.returns
returns c = parts_are_one
