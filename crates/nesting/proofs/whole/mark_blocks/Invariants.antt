-- Marked are exactly the blocks of the list so far.
use Rattle.pit_search.proofs.Marking.{IsMarking}
use Rattle.nesting.proofs.whole.mark_blocks.Given as goal

abbrev pub invariant-loop-block : goal.invariant-loop-block
invariant-loop-block l = IsMarking l.blocks l.pit l.marks.items l.block-index
