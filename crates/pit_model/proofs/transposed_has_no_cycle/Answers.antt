use Rattle.pit_model.proofs.Dual.{transposed_has_no_cycle}
use Rattle.pit_model.proofs.transposed_has_no_cycle.Goals as goal

pub returns : goal.returns
returns c = transposed_has_no_cycle
