-- The arcs of the blocks before the head are handled, and the head is in the queue or at its end.
use Rattle.std.proofs.Common.{◌≤◌}
use Rattle.csr.specs.Queue.{IsProcessed}
use Rattle.csr.proofs.topological_order.topological_order.Given as goal

abbrev pub invariant-loop-head : goal.invariant-loop-head
invariant-loop-head l = record {
  state : IsProcessed l.rows.pairs l.left l.order l.tail l.head;
  ahead : l.head ≤ l.tail;
}
