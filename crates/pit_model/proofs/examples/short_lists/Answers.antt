use Rattle.pit_model.proofs.ExampleLists.{short_lists}
use Rattle.pit_model.proofs.examples.short_lists.Goals as goal

pub returns : goal.returns
returns c = short_lists
