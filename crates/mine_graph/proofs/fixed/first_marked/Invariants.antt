-- None of the blocks so far has a mark.
use Rattle.std.proofs.Common.{◌≡◌, ℕ, ◌<◌, false, get_or}
use Rattle.mine_graph.specs.FixedBlocks.{mark_of}
use Rattle.mine_graph.proofs.fixed.first_marked.Given as goal

abbrev pub invariant-loop-i : goal.invariant-loop-i
invariant-loop-i l = (j : ℕ) → j < l.i → mark_of l.marks (get_or l.blocks j 0) ≡ false
