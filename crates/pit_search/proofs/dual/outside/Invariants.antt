-- Marked are exactly the blocks of the list so far.
use Rattle.pit_search.proofs.Marking.{IsMarking}
use Rattle.pit_search.proofs.dual.outside.Given as goal

abbrev pub invariant-loop-u : goal.invariant-loop-u
invariant-loop-u l = IsMarking l.n l.found l.inside.items l.u-index
