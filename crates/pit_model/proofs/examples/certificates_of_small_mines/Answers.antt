use Rattle.pit_model.proofs.ExamplePits.{certificates_of_small_mines}
use Rattle.pit_model.proofs.examples.certificates_of_small_mines.Goals as goal

pub returns : goal.returns
returns c = certificates_of_small_mines
