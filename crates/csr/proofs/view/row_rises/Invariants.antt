-- What stands there so far rises.
use Rattle.csr.specs.Rows.{RowRises}
use Rattle.csr.proofs.view.row_rises.Given as goal

abbrev pub invariant-loop-k : goal.invariant-loop-k
invariant-loop-k l = RowRises l.targets l.begin l.k
