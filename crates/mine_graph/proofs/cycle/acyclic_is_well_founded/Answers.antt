-- From a member of a needy set of lowest height a lower one is needed.
use Rattle.mine_graph.proofs.Acyclic.{acyclic_is_well_founded}
use Rattle.mine_graph.proofs.cycle.acyclic_is_well_founded.Goals as goal

pub returns : goal.returns
returns c = acyclic_is_well_founded
