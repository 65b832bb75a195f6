-- The places of the row so far are not of its own block.
use Rattle.std.proofs.Common.{◌≡◌, ℕ, ◌+◌, ◌<◌, ◌≤◌, get_or}
use Rattle.arrays.proofs.needs.own_place.Given as goal

abbrev pub invariant-loop-k : goal.invariant-loop-k
invariant-loop-k l = record {
  from : get_or l.rows.offsets.now l.block 0 ≤ l.k;
  others : (i : ℕ) → get_or l.rows.offsets.now l.block 0 ≤ i → i < l.k → get_or l.rows.targets.now i 0 ≡ l.block → ⊥;
}
