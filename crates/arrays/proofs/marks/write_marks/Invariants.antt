-- First no block is marked, and then the blocks so far.
use Rattle.std.proofs.Common.{◌≡◌, ℕ, ◌<◌, length, get_or}
use Rattle.arrays.proofs.Marking.{AreMarked}
use Rattle.arrays.proofs.marks.write_marks.Given as goal

abbrev pub invariant-loop-mark : goal.invariant-loop-mark
invariant-loop-mark l = (u : ℕ) → u < l.mark-index → get_or l.marks u 0 ≡ 0

abbrev pub invariant-loop-block : goal.invariant-loop-block
invariant-loop-block l = AreMarked (length l.initial.marks) l.blocks l.marks l.block-index
