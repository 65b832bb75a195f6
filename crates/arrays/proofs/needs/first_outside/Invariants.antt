-- The blocks so far are there.
use Rattle.std.proofs.Common.{ℕ, ◌<◌, get_or}
use Rattle.arrays.proofs.needs.first_outside.Given as goal

abbrev pub invariant-loop-k : goal.invariant-loop-k
invariant-loop-k l = (i : ℕ) → i < l.k → get_or l.needs i 0 < l.blocks
