use Rattle.pit_model.proofs.Dual.{dual_gives_greatest}
use Rattle.pit_model.proofs.dual_gives_greatest.Goals as goal

pub returns : goal.returns
returns c = dual_gives_greatest
