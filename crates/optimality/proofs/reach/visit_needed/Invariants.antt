use Rattle.std.proofs.Common.{true}
use Rattle.pit_model.specs.Graph.{second_of}
use Rattle.mine_graph.specs.BreadthFirst.{VisitsExactly}
use Rattle.optimality.specs.Reaching.{IsVisited}
use Rattle.optimality.proofs.reach.visit_needed.Given as goal

abbrev pub invariant-loop-k : goal.invariant-loop-k
invariant-loop-k l = VisitsExactly (IsVisited l.inside (λ x. true) (second_of l.graph.pairs) l.fn.row.start l.k) l.fn.search l.search
