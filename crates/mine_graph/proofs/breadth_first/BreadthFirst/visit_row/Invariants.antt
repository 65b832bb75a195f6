use Rattle.pit_model.specs.Graph.{second_of}
use Rattle.mine_graph.specs.BreadthFirst.{IsAt, VisitsExactly}
use Rattle.mine_graph.proofs.breadth_first.BreadthFirst.visit_row.Given as goal

abbrev pub invariant-loop-k : goal.invariant-loop-k
invariant-loop-k l = VisitsExactly (IsAt (second_of l.rows.pairs) l.initial.k l.k) l.fn.self l.self
