use Rattle.schedule_texts.proofs.ExampleTexts.{texts_of_two_blocks}
use Rattle.schedule_texts.proofs.laws.texts_of_two_blocks.Goals as goal

pub returns : goal.returns
returns c = texts_of_two_blocks
