use Rattle.commands.proofs.Uniqueness.{answer_is_one}
use Rattle.commands.proofs.laws.answer_is_one.Goals as goal

pub returns : goal.returns
returns c = answer_is_one
