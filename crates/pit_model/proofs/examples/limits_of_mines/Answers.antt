use Rattle.pit_model.proofs.ExampleGraphs.{limits_of_mines}
use Rattle.pit_model.proofs.examples.limits_of_mines.Goals as goal

pub returns : goal.returns
returns c = limits_of_mines
