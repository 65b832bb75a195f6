-- The queue holds the free blocks so far.
use Rattle.csr.proofs.Queue.{IsQueuing}
use Rattle.csr.proofs.topological_order.queue_sources.Given as goal

abbrev pub invariant-loop-u : goal.invariant-loop-u
invariant-loop-u l = IsQueuing l.left l.order l.tail l.u
