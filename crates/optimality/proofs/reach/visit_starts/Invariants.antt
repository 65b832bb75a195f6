use Rattle.std.proofs.Common.{get_or}
use Rattle.std.specs.Prelude.{pos, int_lt}
use Rattle.mine_graph.specs.BreadthFirst.{VisitsExactly}
use Rattle.optimality.specs.Reaching.{IsVisited}
use Rattle.optimality.proofs.reach.visit_starts.Given as goal

abbrev pub invariant-loop-u : goal.invariant-loop-u
invariant-loop-u l = VisitsExactly (IsVisited l.inside (λ x. int_lt (pos 0) (get_or l.excesses x (pos 0))) (λ x. x) 0 l.u) l.fn.search l.search
