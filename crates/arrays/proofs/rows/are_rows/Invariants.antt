-- The rows so far rise.
use Rattle.std.proofs.Common.{ℕ, ◌+◌, ◌<◌, ◌≤◌, get_or}
use Rattle.arrays.proofs.rows.are_rows.Given as goal

abbrev pub invariant-loop-u : goal.invariant-loop-u
invariant-loop-u l = (v : ℕ) → v < l.u → get_or l.offsets v 0 ≤ get_or l.offsets (v + 1) 0
