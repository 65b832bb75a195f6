use Rattle.pit_model.proofs.ExampleShells.{shells_of_pair}
use Rattle.pit_model.proofs.examples.shells_of_pair.Goals as goal

pub returns : goal.returns
returns c = shells_of_pair
