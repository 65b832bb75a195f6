use Rattle.schedule_model.proofs.ExampleSchedules.{schedules_of_two_blocks}
use Rattle.schedule_model.proofs.schedules_of_two_blocks.Goals as goal

pub returns : goal.returns
returns c = schedules_of_two_blocks
