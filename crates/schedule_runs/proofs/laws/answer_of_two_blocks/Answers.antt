use Rattle.schedule_runs.proofs.ExampleAnswer.{answer_of_two_blocks}
use Rattle.schedule_runs.proofs.laws.answer_of_two_blocks.Goals as goal

pub returns : goal.returns
returns c = answer_of_two_blocks
