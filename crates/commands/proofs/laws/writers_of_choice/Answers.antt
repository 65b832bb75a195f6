use Rattle.commands.proofs.ExampleRuns.{writers_of_choice}
use Rattle.commands.proofs.laws.writers_of_choice.Goals as goal

pub returns : goal.returns
returns c = writers_of_choice
