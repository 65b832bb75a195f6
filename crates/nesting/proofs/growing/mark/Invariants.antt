-- The blocks of the numbers so far are marked.
use Rattle.nesting.proofs.Marking.{IsMarking}
use Rattle.nesting.proofs.growing.mark.Given as goal

abbrev pub invariant-loop-i : goal.invariant-loop-i
invariant-loop-i l = IsMarking l.fn.marks l.marks l.blocks l.found l.i-index
