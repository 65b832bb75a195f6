use Rattle.std.proofs.Common.{◌≤◌}
use Rattle.optimality.specs.Reaching.{IsReachedSoFar}
use Rattle.optimality.proofs.reach.reached_of.Given as goal

abbrev pub invariant-loop-head : goal.invariant-loop-head
invariant-loop-head l = record {
  state : IsReachedSoFar l.mine l.inside l.flow l.search l.head;
  ahead : l.head ≤ l.search.tail;
}
