-- The parts of the numbers so far are written.
use Rattle.std.proofs.Common.{◌≡◌, ◌<◌, ◌^◌, ◌+ℤ◌, ◌*ℤ◌, ℕ, pos, length, get_or}
use Rattle.arrays.proofs.halves.write_halves.Given as goal

abbrev pub invariant-loop-k : goal.invariant-loop-k
invariant-loop-k l = record {
  highs : length l.high ≡ length l.numbers;
  lows : length l.low ≡ length l.numbers;
  each : (j : ℕ) → j < l.k → get_or l.numbers j (pos 0) ≡ pos (2 ^ 64) *ℤ get_or l.high j (pos 0) +ℤ pos (get_or l.low j 0);
}
