-- The open blocks are blocks of the whole, so their values are within the limits; and the graph is that of the rest.
use Rattle.std.proofs.Common.{◌≡◌, ℕ, ◌<◌, ◌∙◌, arith, ap, sym, subst, List, get_or, length}
use Rattle.std.specs.Prelude.{ℤ, map, pos}
use Rattle.std.specs.Arc.{arc_value}
use Rattle.std.proofs.lemmas.List.{ext_get_or, get_or-map, length-map}
use Rattle.pit_model.specs.Graph.{Graph}
use Rattle.pit_model.specs.Mine.{Instance, instance_of, value}
use Rattle.pit_model.specs.Fixed.{IsFixedRest, fixed_of, graph_of_mine, is_open}
use Rattle.mine_graph.specs.FixedBlocks.{forced_closure, barred_closure}
use Rattle.merging.specs.Reduced.{IsRestIn}
use Rattle.merging.proofs.SolvedPart.{blocks_below, graph_is}
use Rattle.merging.proofs.reduced_mine.ReducedMine.of.Goals as goal

pub values_at-requires : goal.values_at-requires
values_at-requires c =
    let mine = c.args.mine.now in
    let whole : c.deref.result.now ≡ graph_of_mine mine = c.deref.ensures ∙ graph_is (arc_value c.graph.result.now) mine c.graph.ensures.blocks c.graph.ensures.pairs in
    let part = c.in_ok-part.part in
    let is = c.in_ok-part.ensures.rest in
    let below = blocks_below c.deref.result.now part.graph (is_open (forced_closure c.args.fixed.now) (barred_closure c.args.fixed.now)) part.blocks.items is.is_part in
    subst (λ (xs : List ℕ). (u : ℕ) → u < length xs → get_or xs u 0 < mine.blocks) (sym c.deref-2.ensures.value)
    (λ u l. subst (λ (g : Graph). get_or part.blocks.items u 0 < g.blocks) whole (below u l))

pub with_counters-rest-requires-clause-low : goal.with_counters-rest-requires-clause-low
with_counters-rest-requires-clause-low c u l =
    let mine = c.args.mine.now in
    let whole : c.deref.result.now ≡ graph_of_mine mine = c.deref.ensures ∙ graph_is (arc_value c.graph.result.now) mine c.graph.ensures.blocks c.graph.ensures.pairs in
    let part = c.in_ok-part.part in
    let is = c.in_ok-part.ensures.rest in
    let count = ap (λ (g : Graph). g.blocks) c.in_ok-new.ensures.ok ∙ is.is_part.count in
    let size = ap (λ (xs : List ℕ). length xs) c.deref-2.ensures.value in
    let same = c.in_ok-values.ensures.each u (omega arith) in
    let at = ap (λ xs. get_or xs u 0) c.deref-2.ensures.value in
    let near = blocks_below c.deref.result.now part.graph (is_open (forced_closure c.args.fixed.now) (barred_closure c.args.fixed.now)) part.blocks.items is.is_part u (omega arith) in
    let below = subst (λ (g : Graph). get_or part.blocks.items u 0 < g.blocks) whole near in
    rw same (c.law.ensures.limits.low (get_or c.deref-2.result.now u 0) (omega arith))

pub with_counters-rest-requires-clause-high : goal.with_counters-rest-requires-clause-high
with_counters-rest-requires-clause-high c u l =
    let mine = c.args.mine.now in
    let whole : c.deref.result.now ≡ graph_of_mine mine = c.deref.ensures ∙ graph_is (arc_value c.graph.result.now) mine c.graph.ensures.blocks c.graph.ensures.pairs in
    let part = c.in_ok-part.part in
    let is = c.in_ok-part.ensures.rest in
    let count = ap (λ (g : Graph). g.blocks) c.in_ok-new.ensures.ok ∙ is.is_part.count in
    let size = ap (λ (xs : List ℕ). length xs) c.deref-2.ensures.value in
    let same = c.in_ok-values.ensures.each u (omega arith) in
    let at = ap (λ xs. get_or xs u 0) c.deref-2.ensures.value in
    let near = blocks_below c.deref.result.now part.graph (is_open (forced_closure c.args.fixed.now) (barred_closure c.args.fixed.now)) part.blocks.items is.is_part u (omega arith) in
    let below = subst (λ (g : Graph). get_or part.blocks.items u 0 < g.blocks) whole near in
    rw same (c.law.ensures.limits.high (get_or c.deref-2.result.now u 0) (omega arith))

pub returns-clause-rest : goal.returns-clause-rest
returns-clause-rest c =
    let mine = c.args.mine.now in
    let fixed = c.args.fixed.now in
    let rest = c.with_counters-rest.result in
    let part = c.in_ok-part.part in
    let blocks = part.blocks.items in
    let whole : c.deref.result.now ≡ graph_of_mine mine = c.deref.ensures ∙ graph_is (arc_value c.graph.result.now) mine c.graph.ensures.blocks c.graph.ensures.pairs in
    let held : arc_value c.in_ok-new.field-0 ≡ part.graph = c.in_ok-new.ensures.ok in
    let size : rest.blocks ≡ part.graph.blocks = c.with_counters-rest.ensures.blocks ∙ ap (λ (g : Graph). g.blocks) held in
    let pairs : rest.pairs ≡ part.graph.pairs = c.with_counters-rest.ensures.pairs ∙ ap (λ (g : Graph). g.pairs) held in
    let own : part.graph ≡ graph_of_mine rest = graph_is part.graph rest (sym size) (sym pairs) in
    let list : c.deref-2.result.now ≡ blocks = c.deref-2.ensures.value in
    let count : length c.in_ok-values.values.items ≡ length blocks = c.in_ok-values.ensures.count ∙ ap (λ (xs : List ℕ). length xs) list in
    let values : c.in_ok-values.values.items ≡ map (value mine) blocks = ext_get_or (pos 0) c.in_ok-values.values.items (map (value mine) blocks) (count ∙ sym (length-map blocks (value mine)))
    (λ i l.
    let inside : i < length c.deref-2.result.now = (let a = c.in_ok-values.ensures.count in omega arith) in
    let here : i < length blocks = omega arith in
    c.in_ok-values.ensures.each i inside ∙ ap (λ (xs : List ℕ). value mine (get_or xs i 0)) list ∙ sym (get_or-map (value mine) blocks i 0 (pos 0) here)) in
    subst (λ (m : Instance). IsRestIn mine fixed (record { blocks = part.blocks; mine = m })) (sym c.in_ok-mine.ensures)
    (record {
      is_rest =
          subst (λ (g : Graph). IsFixedRest (graph_of_mine mine) (fixed_of fixed.lists) (forced_closure fixed) (barred_closure fixed) blocks g) own
          (subst (λ (g : Graph). IsFixedRest g (fixed_of fixed.lists) (forced_closure fixed) (barred_closure fixed) blocks part.graph) whole c.in_ok-part.ensures.rest);
      mine_is = ap (λ (vs : List ℤ). instance_of rest.blocks vs rest.pairs) (c.with_counters-rest.ensures.values ∙ values);
    })
