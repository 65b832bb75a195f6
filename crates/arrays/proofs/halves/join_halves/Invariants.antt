-- The numbers so far.
use Rattle.std.proofs.Common.{◌≡◌, ◌<◌, ◌^◌, ◌+ℤ◌, ◌*ℤ◌, ℕ, pos, length, get_or}
use Rattle.arrays.proofs.halves.join_halves.Given as goal

abbrev pub invariant-loop-k : goal.invariant-loop-k
invariant-loop-k l = record {
  size : length l.numbers.items ≡ l.k;
  each : (j : ℕ) → j < l.k → get_or l.numbers.items j (pos 0) ≡ pos (2 ^ 64) *ℤ get_or l.high j (pos 0) +ℤ pos (get_or l.low j 0);
}
