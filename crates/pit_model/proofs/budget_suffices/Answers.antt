use Rattle.pit_model.proofs.Existence.{budget_suffices}
use Rattle.pit_model.proofs.budget_suffices.Goals as goal

pub returns : goal.returns
returns c = budget_suffices
