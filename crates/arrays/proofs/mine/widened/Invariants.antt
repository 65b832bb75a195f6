-- The values so far.
use Rattle.std.proofs.Common.{◌≡◌, ◌≤ℤ◌, ◌<◌, ◌^◌, ℕ, pos, neg_ℤ, get_or, take}
use Rattle.arrays.proofs.mine.widened.Given as goal

abbrev pub invariant-loop-value : goal.invariant-loop-value
invariant-loop-value l =
    (l.list.items ≡ take l.value-index l.values)
    × ((u : ℕ) → u < l.value-index → neg_ℤ (pos (10 ^ 23)) ≤ℤ get_or l.values u (pos 0))
    × ((u : ℕ) → u < l.value-index → get_or l.values u (pos 0) ≤ℤ pos (10 ^ 23))
