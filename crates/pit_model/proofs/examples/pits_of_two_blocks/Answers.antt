use Rattle.pit_model.proofs.ExamplePits.{pits_of_two_blocks}
use Rattle.pit_model.proofs.examples.pits_of_two_blocks.Goals as goal

pub returns : goal.returns
returns c = pits_of_two_blocks
