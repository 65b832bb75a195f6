-- The arcs of the block at the head are handled up to k, and its place in the queue stays.
use Rattle.std.proofs.Common.{◌≡◌, ◌≤◌, get_or}
use Rattle.csr.proofs.Queue.{IsProcessing}
use Rattle.csr.proofs.topological_order.process_head.Given as goal

abbrev pub invariant-loop-k : goal.invariant-loop-k
invariant-loop-k l = record {
  state : IsProcessing l.rows.pairs l.left l.order l.last l.head l.begin l.k l.end;
  grows : l.tail ≤ l.last;
  block : get_or l.order l.head 0 ≡ get_or l.fn.order l.head 0;
}
