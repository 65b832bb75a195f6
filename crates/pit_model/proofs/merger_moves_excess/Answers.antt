use Rattle.pit_model.proofs.MergerExcess.{merger_moves_excess}
use Rattle.pit_model.proofs.merger_moves_excess.Goals as goal

pub returns : goal.returns
returns c = merger_moves_excess
