-- The pairs of the periods so far.
use Rattle.scheduling.specs.Pairs.{AreNeededPairs}
use Rattle.scheduling.proofs.pairs.needed_pairs.Given as goal

abbrev pub invariant-loop-period : goal.invariant-loop-period
invariant-loop-period l = AreNeededPairs l.problem l.period l.pairs.items
