-- No place of the rows so far is of its own block.
use Rattle.std.proofs.Common.{ℕ, ◌<◌, get_or}
use Rattle.arrays.specs.Encoded.{IsInRow}
use Rattle.arrays.proofs.needs.first_of_itself.Given as goal

abbrev pub invariant-loop-block : goal.invariant-loop-block
invariant-loop-block l = (k : ℕ) → k < get_or l.rows.offsets.now l.block 0 → IsInRow l.rows.offsets.now (get_or l.rows.targets.now k 0) k → ⊥
