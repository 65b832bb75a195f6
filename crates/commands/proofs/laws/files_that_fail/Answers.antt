use Rattle.commands.proofs.ExampleRuns.{files_that_fail}
use Rattle.commands.proofs.laws.files_that_fail.Goals as goal

pub returns : goal.returns
returns c = files_that_fail
