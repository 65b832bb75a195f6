use Rattle.std.proofs.Common.{get_or}
use Rattle.mine_graph.specs.BreadthFirst.{IsAt, VisitsExactly}
use Rattle.mine_graph.proofs.breadth_first.BreadthFirst.visit_all.Given as goal

abbrev pub invariant-loop-i : goal.invariant-loop-i
invariant-loop-i l = VisitsExactly (IsAt (λ x. get_or l.blocks x 0) 0 l.i) l.fn.self l.self
