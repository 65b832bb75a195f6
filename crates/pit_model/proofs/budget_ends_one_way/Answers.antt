use Rattle.pit_model.proofs.OneEnd.{budget_ends_one_way}
use Rattle.pit_model.proofs.budget_ends_one_way.Goals as goal

pub returns : goal.returns
returns c = budget_ends_one_way
