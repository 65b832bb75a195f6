-- The rows spell the transposed pairs.
use Rattle.std.proofs.Common.{ap, subst, sym}
use Rattle.pit_model.specs.Graph.{Graph, IsGraph}
use Rattle.csr.specs.Transposed.{transposed_pairs}
use Rattle.mine_graph.proofs.Reversed.{reversed_is_graph}
use Rattle.mine_graph.proofs.graph.Graph.reversed.Goals as goal

pub of_acyclic_rows-requires-clause-graph : goal.of_acyclic_rows-requires-clause-graph
of_acyclic_rows-requires-clause-graph c =
    let g = c.args.self.now in
    subst (IsGraph c.self.inside.blocks) (sym c.in_ok-predecessors.ensures.pairs)
    (subst (λ n. IsGraph n (transposed_pairs g.pairs g.blocks)) (sym (ap (λ (h : Graph). h.blocks) c.self.view_is))
    (reversed_is_graph g.pairs g.blocks c.law.ensures.graph))
