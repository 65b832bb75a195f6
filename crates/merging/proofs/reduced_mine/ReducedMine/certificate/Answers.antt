-- Each pair of the rest is one of the whole, where its amount is written; all other pairs carry nothing.
use Rattle.std.proofs.Common.{rules, ◌≡◌, ℕ, ◌∙◌, ap, sym, subst, drop, List, length}
use Rattle.std.specs.Prelude.{ℤ, pos}
use Rattle.std.specs.Arc.{arc_value}
use Rattle.std.proofs.lemmas.List.{take_at}
use Rattle.pit_model.specs.Graph.{Graph}
use Rattle.pit_model.specs.Mine.{arcs, members}
use Rattle.pit_model.specs.Fixed.{graph_of_mine, is_open}
use Rattle.mine_graph.specs.FixedBlocks.{forced_closure, barred_closure}
use Rattle.optimality.specs.Check.{amount}
use Rattle.merging.specs.Parts.{AreCarried}
use Rattle.merging.specs.Reduced.{ListsJoined}
use Rattle.merging.proofs.Resting.{certificate_of_whole, none_both, zeros}
use Rattle.merging.proofs.SolvedPart.{blocks_apart, blocks_below, graph_is, same_part}
use Rattle.merging.proofs.reduced_mine.ReducedMine.certificate.Goals as goal

pub carry_flow-requires-clause-blocks : goal.carry_flow-requires-clause-blocks
carry_flow-requires-clause-blocks c =
    let mine = c.args.mine.now in
    let rest = c.args.self.now in
    let whole = c.deref-whole.ensures ∙ graph_is (arc_value c.graph.result.now) mine c.graph.ensures.blocks c.graph.ensures.pairs in
    let own = c.deref-part.ensures ∙ graph_is (arc_value c.graph-2.result.now) rest.mine c.graph-2.ensures.blocks c.graph-2.ensures.pairs in
    let test = is_open (forced_closure c.args.fixed.now) (barred_closure c.args.fixed.now) in
    blocks_below c.deref-whole.result.now c.deref-part.result.now test c.deref.result.now
    (same_part mine rest.mine test rest.blocks.items c.deref-whole.result.now c.deref-part.result.now c.deref.result.now whole own c.deref.ensures.value c.requires.rest.is_rest.is_part)

pub carry_flow-requires-clause-apart : goal.carry_flow-requires-clause-apart
carry_flow-requires-clause-apart c =
    let mine = c.args.mine.now in
    let rest = c.args.self.now in
    let whole = c.deref-whole.ensures ∙ graph_is (arc_value c.graph.result.now) mine c.graph.ensures.blocks c.graph.ensures.pairs in
    let own = c.deref-part.ensures ∙ graph_is (arc_value c.graph-2.result.now) rest.mine c.graph-2.ensures.blocks c.graph-2.ensures.pairs in
    let test = is_open (forced_closure c.args.fixed.now) (barred_closure c.args.fixed.now) in
    blocks_apart c.deref-whole.result.now c.deref-part.result.now test c.deref.result.now
    (same_part mine rest.mine test rest.blocks.items c.deref-whole.result.now c.deref-part.result.now c.deref.result.now whole own c.deref.ensures.value c.requires.rest.is_rest.is_part)

pub carry_flow-requires-clause-inside : goal.carry_flow-requires-clause-inside
carry_flow-requires-clause-inside c =
    let mine = c.args.mine.now in
    let rest = c.args.self.now in
    let whole = c.deref-whole.ensures ∙ graph_is (arc_value c.graph.result.now) mine c.graph.ensures.blocks c.graph.ensures.pairs in
    let own = c.deref-part.ensures ∙ graph_is (arc_value c.graph-2.result.now) rest.mine c.graph-2.ensures.blocks c.graph-2.ensures.pairs in
    let test = is_open (forced_closure c.args.fixed.now) (barred_closure c.args.fixed.now) in
    (same_part mine rest.mine test rest.blocks.items c.deref-whole.result.now c.deref-part.result.now c.deref.result.now whole own c.deref.ensures.value c.requires.rest.is_rest.is_part).inside

pub returns-clause-certificate : goal.returns-clause-certificate
returns-clause-certificate c =
    let mine = c.args.mine.now in
    let rest = c.args.self.now in
    let found = c.args.found.now in
    let nothing = c.in_ok-flow.flow.items in
    let flow = c.carry_flow.new.flow in
    let whole = c.deref-whole.ensures ∙ graph_is (arc_value c.graph.result.now) mine c.graph.ensures.blocks c.graph.ensures.pairs in
    let own = c.deref-part.ensures ∙ graph_is (arc_value c.graph-2.result.now) rest.mine c.graph-2.ensures.blocks c.graph-2.ensures.pairs in
    let long : length nothing ≡ arcs mine = search rules in
    let none : (a : ℕ) → amount nothing a ≡ pos 0 = zeros nothing _ (c.in_ok-flow.ensures.items_if_clones_equal (λ y e. e)) in
    let was : AreCarried (graph_of_mine mine) rest.blocks.items (graph_of_mine rest.mine) found.flow.items (arcs rest.mine) nothing flow =
    subst (λ (g : Graph). AreCarried g rest.blocks.items (graph_of_mine rest.mine) found.flow.items (arcs rest.mine) nothing flow) whole
    (subst (λ (g : Graph). AreCarried c.deref-whole.result.now rest.blocks.items g found.flow.items (length g.pairs) nothing flow) own
    (subst (λ (xs : List ℕ). AreCarried c.deref-whole.result.now xs c.deref-part.result.now found.flow.items (length c.deref-part.result.now.pairs) nothing flow) c.deref.ensures.value
    (subst (λ (ys : List ℤ). AreCarried c.deref-whole.result.now c.deref.result.now c.deref-part.result.now ys (length c.deref-part.result.now.pairs) nothing flow) c.deref-2.ensures.value
    (subst (λ (ys : List ℤ). AreCarried c.deref-whole.result.now c.deref.result.now c.deref-part.result.now c.deref-2.result.now (length c.deref-part.result.now.pairs) ys flow) c.deref_mut.ensures.value c.carry_flow.ensures)))) in
    let flow_size : length flow ≡ c.in_ok-flow.flow.len = c.carry_flow.ensures.size ∙ c.deref_mut.ensures.len in
    let answer = certificate_of_whole mine c.args.fixed.now rest c.requires.fixed c.requires.rest c.law.ensures c.law-2.ensures found c.requires.found nothing flow none long was
    c.in_ok-pit.pit.items _ (take_at flow (drop (length flow) nothing) c.in_ok-flow.flow.len flow_size)
    (λ set listed.
    subst (λ n. ListsJoined n c.args.fixed.now rest.blocks.items set c.in_ok-pit.pit.items) (c.n.ensures ∙ ap (λ (g : Graph). g.blocks) whole)
    (subst (λ (xs : List ℕ). ListsJoined c.n.result c.args.fixed.now xs set c.in_ok-pit.pit.items) c.deref-3.ensures.value
    (c.in_ok-pit.ensures.joined set (c.deref-4.ensures.value ∙ listed ∙ ap (λ (xs : List ℕ). members (length xs) set) (sym c.deref-3.ensures.value))))) in
    record { certifies = answer.0; candidate = answer.1 }

pub join_pit-requires-clause-apart : goal.join_pit-requires-clause-apart
join_pit-requires-clause-apart c = none_both c.args.mine.now c.args.fixed.now c.requires.fixed
