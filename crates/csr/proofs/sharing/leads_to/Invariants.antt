-- The differences so far lead to the targets.
use Rattle.csr.specs.Shared.{LeadTo}
use Rattle.csr.proofs.sharing.leads_to.Given as goal

abbrev pub invariant-loop-k : goal.invariant-loop-k
invariant-loop-k l = LeadTo l.numbers l.pattern l.row.block l.numbers l.row.begin l.k
