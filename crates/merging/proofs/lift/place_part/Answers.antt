-- The blocks of the part rise, are blocks of the whole, and all its pairs are pairs of the whole.
use Rattle.std.proofs.Common.{◌≡◌, ℕ, ◌∙◌, arith, ap, List, get_or, length}
use Rattle.pit_model.specs.Graph.{Graph}
use Rattle.merging.specs.Parts.{graph_of_instance}
use Rattle.merging.proofs.SolvedPart.{blocks_below, blocks_apart, same_part, graph_is}
use Rattle.merging.proofs.lift.place_part.Goals as goal

pub mark_pit-requires-clause-blocks : goal.mark_pit-requires-clause-blocks
mark_pit-requires-clause-blocks c u l =
    let same : c.deref.result.now ≡ c.args.part.now.blocks.items = c.deref.ensures.value in
    let at = ap (λ xs. get_or xs u 0) same in
    let size = ap (λ (xs : List ℕ). length xs) same in
    let below = blocks_below (graph_of_instance c.args.instance.now) (graph_of_instance c.args.part.now.mine) c.requires.part.0 c.args.part.now.blocks.items c.requires.part.1 u (omega arith) in
    omega (arith, c.requires.marks)

pub carry_flow-requires-clause-blocks : goal.carry_flow-requires-clause-blocks
carry_flow-requires-clause-blocks c =
    let whole = graph_is c.deref-3.result.now c.args.instance.now (ap (λ (g : Graph). g.blocks) c.deref-3.ensures ∙ c.graph-2.ensures.blocks) (ap (λ (g : Graph). g.pairs) c.deref-3.ensures ∙ c.graph-2.ensures.pairs) in
    let own = graph_is c.deref-graph.result.now c.args.part.now.mine (ap (λ (g : Graph). g.blocks) c.deref-graph.ensures ∙ c.graph.ensures.blocks) (ap (λ (g : Graph). g.pairs) c.deref-graph.ensures ∙ c.graph.ensures.pairs) in
    blocks_below c.deref-3.result.now c.deref-graph.result.now c.requires.part.0 c.deref-4.result.now
    (same_part c.args.instance.now c.args.part.now.mine c.requires.part.0 c.args.part.now.blocks.items c.deref-3.result.now c.deref-graph.result.now c.deref-4.result.now whole own c.deref-4.ensures.value c.requires.part.1)

pub carry_flow-requires-clause-apart : goal.carry_flow-requires-clause-apart
carry_flow-requires-clause-apart c =
    let whole = graph_is c.deref-3.result.now c.args.instance.now (ap (λ (g : Graph). g.blocks) c.deref-3.ensures ∙ c.graph-2.ensures.blocks) (ap (λ (g : Graph). g.pairs) c.deref-3.ensures ∙ c.graph-2.ensures.pairs) in
    let own = graph_is c.deref-graph.result.now c.args.part.now.mine (ap (λ (g : Graph). g.blocks) c.deref-graph.ensures ∙ c.graph.ensures.blocks) (ap (λ (g : Graph). g.pairs) c.deref-graph.ensures ∙ c.graph.ensures.pairs) in
    blocks_apart c.deref-3.result.now c.deref-graph.result.now c.requires.part.0 c.deref-4.result.now
    (same_part c.args.instance.now c.args.part.now.mine c.requires.part.0 c.args.part.now.blocks.items c.deref-3.result.now c.deref-graph.result.now c.deref-4.result.now whole own c.deref-4.ensures.value c.requires.part.1)

pub carry_flow-requires-clause-inside : goal.carry_flow-requires-clause-inside
carry_flow-requires-clause-inside c =
    let whole = graph_is c.deref-3.result.now c.args.instance.now (ap (λ (g : Graph). g.blocks) c.deref-3.ensures ∙ c.graph-2.ensures.blocks) (ap (λ (g : Graph). g.pairs) c.deref-3.ensures ∙ c.graph-2.ensures.pairs) in
    let own = graph_is c.deref-graph.result.now c.args.part.now.mine (ap (λ (g : Graph). g.blocks) c.deref-graph.ensures ∙ c.graph.ensures.blocks) (ap (λ (g : Graph). g.pairs) c.deref-graph.ensures ∙ c.graph.ensures.pairs) in
    (same_part c.args.instance.now c.args.part.now.mine c.requires.part.0 c.args.part.now.blocks.items c.deref-3.result.now c.deref-graph.result.now c.deref-4.result.now whole own c.deref-4.ensures.value c.requires.part.1).inside
