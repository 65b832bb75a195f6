use Rattle.pit_model.proofs.ExampleTraces.{journals_of_forks}
use Rattle.pit_model.proofs.examples.journals_of_forks.Goals as goal

pub returns : goal.returns
returns c = journals_of_forks
