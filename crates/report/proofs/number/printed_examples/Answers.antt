-- The examples, as they are computed.
use Rattle.report.proofs.ExampleNumbers as examples
use Rattle.report.proofs.number.printed_examples.Goals as goal

pub returns : goal.returns
returns c = examples.printed_examples
