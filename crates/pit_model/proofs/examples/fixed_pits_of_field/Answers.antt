use Rattle.pit_model.proofs.ExampleFixed.{fixed_pits_of_field}
use Rattle.pit_model.proofs.examples.fixed_pits_of_field.Goals as goal

pub returns : goal.returns
returns c = fixed_pits_of_field
