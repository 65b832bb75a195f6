use Rattle.pit_model.proofs.ExampleGraphs.{parts_of_five}
use Rattle.pit_model.proofs.examples.parts_of_five.Goals as goal

pub returns : goal.returns
returns c = parts_of_five
