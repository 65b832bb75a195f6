-- The parts that the graph falls into, each solved.
use Rattle.std.proofs.Common.{◌∙◌, ap, sym, subst}
use Rattle.pit_model.specs.Graph.{Graph}
use Rattle.mine_graph.specs.Parts.{AreParts}
use Rattle.merging.specs.Parts.{AreSolved}
use Rattle.merging.proofs.Joining.{are_solved}
use Rattle.merging.proofs.SolvedPart.{graph_is, parts_of}
use Rattle.merging.proofs.parts.join_of_parts.Goals as goal

pub solve_each-requires-after_bounds : goal.solve_each-requires-after_bounds
solve_each-requires-after_bounds g c κs outlives =
    let whole = graph_is c.deref-graph.result.now c.args.instance.now (ap (λ (g : Graph). g.blocks) c.deref-graph.ensures ∙ c.graph.ensures.blocks) (ap (λ (g : Graph). g.pairs) c.deref-graph.ensures ∙ c.graph.ensures.pairs) in
    parts_of c.args.instance.now c.deref-graph.result.now c.in_ok-parts.parts.items whole c.in_ok-parts.ensures.parts

pub join_parts-requires : goal.join_parts-requires
join_parts-requires g c =
    let whole = graph_is c.deref-graph.result.now c.args.instance.now (ap (λ (g : Graph). g.blocks) c.deref-graph.ensures ∙ c.graph.ensures.blocks) (ap (λ (g : Graph). g.pairs) c.deref-graph.ensures ∙ c.graph.ensures.pairs) in
    subst (AreSolved c.args.instance.now) (sym c.deref.ensures.value)
    (are_solved c.args.instance.now c.in_ok-parts.parts.items c.in_ok-solved.solved.items c.law.ensures
    (subst (λ g. AreParts g c.in_ok-parts.parts.items) whole c.in_ok-parts.ensures.parts) c.in_ok-solved.ensures)
