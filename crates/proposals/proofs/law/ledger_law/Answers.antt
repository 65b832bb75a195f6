-- The table, phase by phase.
use Rattle.proposals.proofs.Table.{ledger_stands}
use Rattle.proposals.proofs.law.ledger_law.Goals as goal

pub returns : goal.returns
returns c = λ n s b. ledger_stands n s b
