-- One pair of the row more.
use Rattle.std.proofs.Common.{ℕ, true, arith, refl, subst}
use Rattle.pit_model.specs.Graph.{second_of}
use Rattle.mine_graph.specs.BreadthFirst.{VisitsExactly}
use Rattle.optimality.specs.Reaching.{IsVisited}
use Rattle.optimality.proofs.Visiting.{visited_more}
use Rattle.optimality.proofs.reach.visit_needed.Goals as goal

pub loop-k-preserved : goal.loop-k-preserved
loop-k-preserved c =
    let inside = c.args.inside.now in
    visited_more inside (λ x. true) (second_of c.args.graph.now.pairs) c.args.row.start c.loop-k.k (omega (arith, c.loop-k.auto.k)) c.args.search.now c.loop-k.search c.loop-k.invariant c.visit.new.search refl
    (subst (λ (b : ℕ). VisitsExactly (IsVisited inside (λ x. true) (λ x. b) 0 1) c.loop-k.search c.visit.new.search) c.needed.ensures c.visit.ensures)
