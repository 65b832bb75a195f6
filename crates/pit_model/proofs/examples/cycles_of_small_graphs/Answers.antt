use Rattle.pit_model.proofs.ExampleGraphs.{cycles_of_small_graphs}
use Rattle.pit_model.proofs.examples.cycles_of_small_graphs.Goals as goal

pub returns : goal.returns
returns c = cycles_of_small_graphs
