-- The sum is within the limits, as all values were.
use Rattle.std.proofs.Common.{rules, ap, arith, get_or, set, length-set, subst, sym, ◌∙◌, ◌≡◌, ◌<◌, ◌^◌, length}
use Rattle.std.specs.Prelude.{pos, ◌+ℤ◌, ◌≤ℤ◌}
use Rattle.std.proofs.lemmas.Int.{ints, to_z-of_z}
use Rattle.std.proofs.lemmas.List.{get_or_default}
use mir.Val.{SFits}
use mir.Syntax.{w128}
use Rattle.pit_model.specs.Mine.{Instance, value}
use Rattle.mine_graph.specs.Invariant.{AreWithinLimits}
use Rattle.mine_graph.proofs.Raising.{raised_within}
use Rattle.mine_graph.proofs.rising.RisingInstance.increase_value.Goals as goal

pub invariant_of-self : goal.invariant_of-self
invariant_of-self c =
    let values = c.self.inside.amounts.items in
    let blocks = c.self.inside.graph.value.blocks in
    let k = c.self.invariant in
    let u = c.args.block in
    let old = get_or values u (pos 0) in
    let size = ap (λ (m : Instance). m.blocks) c.self.view_is in
    let inside : u < blocks = omega arith in
    let most = subst (λ (m : Instance). (value m u +ℤ c.args.amount) ≤ℤ pos (10 ^ 23)) (sym c.self.view_is) c.requires.most in
    let count : length values ≡ blocks = k.count in
    let below : u < length values = omega arith in
    let is : c.index.result.now ≡ old = c.index.ensures ∙ get_or_default values u c.index.result.now (pos 0) below in
    let least = c.requires.least in
    let low = k.low u inside in
    let high = k.high u inside in
    let fits : SFits w128 c.args.amount = search rules in
    let small : SFits w128 old = omega (arith, ints) in
    let sum : SFits w128 (old +ℤ c.args.amount) = omega (arith, ints) in
    let all = subst (λ n. AreWithinLimits n values) (sym k.count) k in
    rw (is, to_z-of_z w128 c.args.amount fits, to_z-of_z w128 old small, to_z-of_z w128 (old +ℤ c.args.amount) sum)
    (subst (λ n. AreWithinLimits n (set values u (old +ℤ c.args.amount))) (length-set values u (old +ℤ c.args.amount) ∙ k.count)
    (raised_within values u (old +ℤ c.args.amount) all below (omega (arith, ints)) most))
