-- The answers of the parts so far are placed.
use Rattle.merging.specs.Parts.{ArePlaced}
use Rattle.merging.proofs.lift.place_parts.Given as goal

abbrev pub invariant-loop-i : goal.invariant-loop-i
invariant-loop-i l = ArePlaced l.instance l.parts l.marks l.flow l.i
