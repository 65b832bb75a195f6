-- The targets of the open row are the last numbers.
use Rattle.std.proofs.Common.{◌≡◌, ◌≤◌, ◌<◌, ◌+◌, ◌-◌, ℕ, List, length, get_or, map, drop, ap, arith, subst, sym, ◌∙◌}
use Rattle.std.proofs.lemmas.List.{length-drop, take_all}
use Rattle.pit_model.specs.Graph.{Graph, first_of}
use Rattle.csr.specs.Built.{built_targets}
use Rattle.csr.proofs.Built.{built_from, length-built, open_after}
use Rattle.csr.proofs.Spelled.{length-pairs_of, seconds_from}
use Rattle.csr.proofs.builder.CsrBuilder.targets_from.Goals as goal

pub overflow_sub-result : goal.overflow_sub-result
overflow_sub-result c =
    let offsets = c.self.inside.offsets.items in
    let patterns = c.self.inside.patterns.items in
    let numbers = c.self.inside.numbers.items in
    let used = c.self.inside.used in
    let recent = c.self.inside.recent.items in
    let begin = c.args.begin in
    let after = open_after offsets patterns numbers used recent c.self.invariant begin (subst (λ (g : Graph). begin ≤ length g.pairs) (sym c.self.view_is) c.requires.inside)
    (subst (λ (g : Graph). (k : ℕ) → begin ≤ k → k < length g.pairs → first_of g.pairs k ≡ g.blocks) (sym c.self.view_is) c.requires.own) in
    let view = ap (λ (g : Graph). length g.pairs) c.self.view_is in
    let long = length-pairs_of offsets (built_targets offsets patterns numbers used) in
    let count = length-built offsets patterns numbers used recent c.self.invariant in
    omega (arith, c.self.invariant.within)

pub returns : goal.returns
returns c =
    let offsets = c.self.inside.offsets.items in
    let patterns = c.self.inside.patterns.items in
    let numbers = c.self.inside.numbers.items in
    let used = c.self.inside.used in
    let recent = c.self.inside.recent.items in
    let targets = built_targets offsets patterns numbers used in
    let begin = c.args.begin in
    let closed : ℕ = get_or offsets (length patterns) 0 in
    let after = open_after offsets patterns numbers used recent c.self.invariant begin (subst (λ (g : Graph). begin ≤ length g.pairs) (sym c.self.view_is) c.requires.inside)
    (subst (λ (g : Graph). (k : ℕ) → begin ≤ k → k < length g.pairs → first_of g.pairs k ≡ g.blocks) (sym c.self.view_is) c.requires.own) in
    let view = ap (λ (g : Graph). length g.pairs) c.self.view_is in
    let long = length-pairs_of offsets targets in
    let count = length-built offsets patterns numbers used recent c.self.invariant in
    let whole = c.deref.result.now in
    let size = ap (λ (q : List ℕ). length q) c.deref.ensures.value in
    let start : ℕ = c.len-end.result - (c.len.result - begin) in
    let at : start ≡ used + (begin - closed) = omega (arith, c.self.invariant.within) in
    let there : closed + (begin - closed) ≡ begin = omega arith in
    take_all (c.len-end.result - start) (drop start whole) (omega (arith, length-drop start whole))
    ∙ ap (drop start) c.deref.ensures.value
    ∙ ap (λ i. drop i numbers) at
    ∙ sym (built_from offsets patterns numbers used recent c.self.invariant (begin - closed))
    ∙ ap (λ i. drop i targets) there
    ∙ seconds_from offsets targets begin
    ∙ ap (λ (g : Graph). map (λ (q : ℕ × ℕ). q.1) (drop begin g.pairs)) c.self.view_is
