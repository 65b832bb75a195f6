-- The blocks so far have their number.
use Rattle.arrays.specs.Firsts.{AreTaken}
use Rattle.arrays.proofs.firsts.take.Given as goal

abbrev pub invariant-loop-block : goal.invariant-loop-block
invariant-loop-block l = AreTaken l.pit l.number l.none l.block-index l.initial.firsts l.firsts
