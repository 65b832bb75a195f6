-- At first no arc is handled.
use Rattle.std.proofs.Common.{arith}
use Rattle.csr.proofs.Queue.{processed_none}
use Rattle.csr.proofs.topological_order.topological_order.Goals as goal

pub loop-head-init : goal.loop-head-init
loop-head-init c = record {
  state = processed_none c.args.rows.now.pairs c.count_in_degrees.new.left c.queue_sources-tail.new.order c.queue_sources-tail.result (λ u h. c.count_in_degrees.ensures u (omega arith)) c.queue_sources-tail.ensures;
  ahead = omega arith;
}
