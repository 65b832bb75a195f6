use Rattle.pit_model.proofs.ExampleTraces.{traces_of_forks}
use Rattle.pit_model.proofs.examples.traces_of_forks.Goals as goal

pub returns : goal.returns
returns c = traces_of_forks
