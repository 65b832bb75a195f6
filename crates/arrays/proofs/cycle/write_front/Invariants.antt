-- The blocks so far stand.
use Rattle.std.proofs.Common.{◌≡◌, ◌<◌, ℕ, length, get_or}
use Rattle.arrays.proofs.cycle.write_front.Given as goal

abbrev pub invariant-loop-i : goal.invariant-loop-i
invariant-loop-i l = (j : ℕ) → j < l.i → j < length l.room → get_or l.room j 0 ≡ get_or l.blocks j 0
