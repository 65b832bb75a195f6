-- The amounts so far are within the limits.
use Rattle.std.proofs.Common.{◌<◌, ◌^◌, ◌≤ℤ◌, ℕ, pos, get_or}
use Rattle.arrays.proofs.columns.first_wrong.Given as goal

abbrev pub invariant-loop-u : goal.invariant-loop-u
invariant-loop-u l = record {
  least : (v : ℕ) → v < l.u → pos 0 ≤ℤ get_or l.amounts v (pos 0);
  most : (v : ℕ) → v < l.u → get_or l.amounts v (pos 0) ≤ℤ pos (10 ^ 18);
}
