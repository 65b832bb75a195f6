-- The rows spell the transposed pairs, which are the same pairs transposed.
use Rattle.std.proofs.Common.{subst, sym}
use Rattle.std.proofs.lemmas.Result.{IfOk-weaker}
use Rattle.pit_model.specs.Fixed.{transposed}
use Rattle.pit_model.specs.Graph.{Graph, AreSamePairs}
use Rattle.mine_graph.proofs.Reversed.{turned_same}
use Rattle.mine_graph.proofs.graph.Graph.successors.Goals as goal

pub returns-clause-same : goal.returns-clause-same
returns-clause-same c =
    let own = c.self.inside.predecessors.pairs in
    let n = c.self.inside.blocks in
    IfOk-weaker c.transposed_rows.result _ _
    (λ r is. subst (λ (g : Graph). AreSamePairs (transposed g.pairs) r.pairs) c.self.view_is
    (subst (AreSamePairs (transposed own)) (sym is) (turned_same own n c.self.invariant.graph.in_range)))
    c.transposed_rows.ensures.pairs
