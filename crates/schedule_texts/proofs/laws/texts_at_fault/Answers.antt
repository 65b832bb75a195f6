use Rattle.schedule_texts.proofs.ExampleTexts.{texts_at_fault}
use Rattle.schedule_texts.proofs.laws.texts_at_fault.Goals as goal

pub returns : goal.returns
returns c = texts_at_fault
