-- What is joined with the root, so far as the blocks of the queue before the head lead.
use Rattle.std.proofs.Common.{◌≡◌, ◌≤◌, length}
use Rattle.mine_graph.specs.BreadthFirst.{VisitsComponent}
use Rattle.mine_graph.proofs.breadth_first.BreadthFirst.visit_joined.Given as goal

abbrev pub invariant-loop-head : goal.invariant-loop-head
invariant-loop-head l = record {
  state : VisitsComponent l.predecessors.pairs l.root l.fn.self l.self l.head;
  size : length l.self.marks.items ≡ l.predecessors.blocks;
  from : l.fn.self.tail ≤ l.head;
  ahead : l.head ≤ l.self.tail;
}
