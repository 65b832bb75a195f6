-- The periods so far are in order.
use Rattle.scheduling.specs.Order.{AreMinedBy, IsInOrderBefore}
use Rattle.scheduling.proofs.order.check_order.Given as goal

abbrev pub invariant-loop-period : goal.invariant-loop-period
invariant-loop-period l = record {
  by_now : AreMinedBy l.problem l.shares l.period l.by_now.items;
  kept : IsInOrderBefore l.problem l.shares l.period;
}
