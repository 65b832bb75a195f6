-- The largest differences so far.
use Rattle.std.proofs.Common.{ℕ, ◌+◌, ◌^◌, ◌<◌, ◌≤◌, get_or}
use Rattle.csr.proofs.shared.reach_of.Given as goal

abbrev pub invariant-loop-k : goal.invariant-loop-k
invariant-loop-k l = record {
  few : l.reach.ahead < 2 ^ 31;
  few_back : l.reach.back ≤ 2 ^ 31;
  ahead : (j : ℕ) → j < l.k → get_or l.differences j 0 < 2 ^ 31 → get_or l.differences j 0 ≤ l.reach.ahead;
  back : (j : ℕ) → j < l.k → 2 ^ 31 ≤ get_or l.differences j 0 → 2 ^ 32 ≤ get_or l.differences j 0 + l.reach.back;
}
