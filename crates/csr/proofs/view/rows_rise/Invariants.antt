-- The rows so far rise.
use Rattle.std.proofs.Common.{ℕ, ◌+◌, ◌<◌, ◌≤◌, get_or}
use Rattle.csr.specs.Rows.{RowRises}
use Rattle.csr.proofs.view.rows_rise.Given as goal

abbrev pub invariant-loop-v : goal.invariant-loop-v
invariant-loop-v l = record {
  some : 1 ≤ l.v;
  rise : (u : ℕ) → u + 1 < l.v → RowRises l.rows.targets.now (get_or l.rows.offsets.now u 0) (get_or l.rows.offsets.now (u + 1) 0);
}
