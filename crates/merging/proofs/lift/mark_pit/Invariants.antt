-- The blocks that the places so far name are marked.
use Rattle.merging.specs.Parts.{ArePitMarks}
use Rattle.merging.proofs.lift.mark_pit.Given as goal

abbrev pub invariant-loop-i : goal.invariant-loop-i
invariant-loop-i l = ArePitMarks l.blocks l.pit l.i l.fn.marks l.marks
