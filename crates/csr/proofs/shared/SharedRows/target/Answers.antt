-- The difference of an arc is as far from its row's pattern as the arc is from the beginning of the row.
use Rattle.std.proofs.Common.{◌≡◌, ◌+◌, ◌-◌, length, get_or, ap, sym, ◌∙◌, arith}
use Rattle.std.proofs.lemmas.List.{get_or_default}
use Rattle.pit_model.specs.Graph.{Graph, first_of, second_of}
use Rattle.csr.specs.Shared.{target_after}
use Rattle.csr.proofs.Patterns.{difference_inside, second_shared, shared_place}
use Rattle.csr.proofs.shared.SharedRows.target.Goals as goal

pub index-requires : goal.index-requires
index-requires c =
    let count = ap (λ (g : Graph). length g.pairs) c.self.view_is in
    let there = shared_place c.self.inside.offsets.items c.self.inside.patterns.items c.self.inside.differences.items c.self.invariant c.args.u c.args.k (omega (arith, c.requires.inside)) (ap (λ (g : Graph). first_of g.pairs c.args.k) c.self.view_is ∙ c.requires.own) in
    let below = there.0 in
    let size = c.self.invariant.rows.count in
    omega arith

pub overflow_sub-place : goal.overflow_sub-place
overflow_sub-place c =
    let offsets = c.self.inside.offsets.items in
    let count = ap (λ (g : Graph). length g.pairs) c.self.view_is in
    let there = shared_place offsets c.self.inside.patterns.items c.self.inside.differences.items c.self.invariant c.args.u c.args.k (omega (arith, c.requires.inside)) (ap (λ (g : Graph). first_of g.pairs c.args.k) c.self.view_is ∙ c.requires.own) in
    let below = there.0 in
    let from = there.1 in
    let size = c.self.invariant.rows.count in
    let begin : c.index.result.now ≡ get_or offsets c.args.u 0 = c.index.ensures ∙ get_or_default offsets c.args.u c.index.result.now 0 (omega arith) in
    omega arith

pub index-requires-2 : goal.index-requires-2
index-requires-2 c =
    let count = ap (λ (g : Graph). length g.pairs) c.self.view_is in
    let there = shared_place c.self.inside.offsets.items c.self.inside.patterns.items c.self.inside.differences.items c.self.invariant c.args.u c.args.k (omega (arith, c.requires.inside)) (ap (λ (g : Graph). first_of g.pairs c.args.k) c.self.view_is ∙ c.requires.own) in
    let below = there.0 in
    omega arith

pub index-requires-3 : goal.index-requires-3
index-requires-3 c =
    let offsets = c.self.inside.offsets.items in
    let patterns = c.self.inside.patterns.items in
    let count = ap (λ (g : Graph). length g.pairs) c.self.view_is in
    let there = shared_place offsets patterns c.self.inside.differences.items c.self.invariant c.args.u c.args.k (omega (arith, c.requires.inside)) (ap (λ (g : Graph). first_of g.pairs c.args.k) c.self.view_is ∙ c.requires.own) in
    let below = there.0 in
    let size = c.self.invariant.rows.count in
    let begin : c.index.result.now ≡ get_or offsets c.args.u 0 = c.index.ensures ∙ get_or_default offsets c.args.u c.index.result.now 0 (omega arith) in
    let pattern : c.index-2.result.now ≡ get_or patterns c.args.u 0 = c.index-2.ensures ∙ get_or_default patterns c.args.u c.index-2.result.now 0 below in
    let inside = difference_inside offsets patterns c.self.inside.differences.items c.self.invariant c.args.u c.args.k below there.1 there.2 in
    omega arith

pub returns : goal.returns
returns c =
    let offsets = c.self.inside.offsets.items in
    let patterns = c.self.inside.patterns.items in
    let differences = c.self.inside.differences.items in
    let count = ap (λ (g : Graph). length g.pairs) c.self.view_is in
    let there = shared_place offsets patterns differences c.self.invariant c.args.u c.args.k (omega (arith, c.requires.inside)) (ap (λ (g : Graph). first_of g.pairs c.args.k) c.self.view_is ∙ c.requires.own) in
    let below = there.0 in
    let size = c.self.invariant.rows.count in
    let begin : c.index.result.now ≡ get_or offsets c.args.u 0 = c.index.ensures ∙ get_or_default offsets c.args.u c.index.result.now 0 (omega arith) in
    let pattern : c.index-2.result.now ≡ get_or patterns c.args.u 0 = c.index-2.ensures ∙ get_or_default patterns c.args.u c.index-2.result.now 0 below in
    let inside = difference_inside offsets patterns differences c.self.invariant c.args.u c.args.k below there.1 there.2 in
    let place : c.index-2.result.now + (c.args.k - c.index.result.now) ≡ get_or patterns c.args.u 0 + (c.args.k - get_or offsets c.args.u 0) = omega arith in
    let at : c.index-3.result.now ≡ get_or differences (get_or patterns c.args.u 0 + (c.args.k - get_or offsets c.args.u 0)) 0 =
    c.index-3.ensures ∙ get_or_default differences (c.index-2.result.now + (c.args.k - c.index.result.now)) c.index-3.result.now 0 (omega arith) ∙ ap (λ i. get_or differences i 0) place in
    ap (target_after c.args.u) at
    ∙ sym (second_shared offsets patterns differences c.self.invariant c.args.u c.args.k below there.1 there.2)
    ∙ ap (λ (g : Graph). second_of g.pairs c.args.k) c.self.view_is
