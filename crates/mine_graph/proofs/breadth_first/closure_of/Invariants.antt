use Rattle.std.proofs.Common.{◌≡◌, ◌≤◌, length}
use Rattle.pit_model.specs.Fixed.{is_among}
use Rattle.mine_graph.specs.BreadthFirst.{VisitsClosure}
use Rattle.mine_graph.proofs.breadth_first.closure_of.Given as goal

abbrev pub invariant-loop-head : goal.invariant-loop-head
invariant-loop-head l = record {
  state : VisitsClosure l.rows.pairs (is_among l.seeds) l.search l.head;
  size : length l.search.marks.items ≡ l.rows.blocks;
  ahead : l.head ≤ l.search.tail;
}
