use Rattle.pit_model.proofs.ExampleTexts.{texts_of_small_answers}
use Rattle.pit_model.proofs.examples.texts_of_small_answers.Goals as goal

pub returns : goal.returns
returns c = texts_of_small_answers
