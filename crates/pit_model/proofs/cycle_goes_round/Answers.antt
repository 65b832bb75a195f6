use Rattle.pit_model.proofs.RoundCycle.{cycle_goes_round}
use Rattle.pit_model.proofs.cycle_goes_round.Goals as goal

pub returns : goal.returns
returns c = cycle_goes_round
