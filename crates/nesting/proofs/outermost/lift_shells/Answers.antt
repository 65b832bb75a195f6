-- The shells of the part on the outermost one, by the numbers of the whole, are those of the whole.
use Rattle.std.proofs.Common.{◌≡◌, ◌<◌, ◌-◌, List, ℕ, get_or, length, refl, sym, ap, subst, arith, rules}
use Rattle.std.specs.List.{All}
use Rattle.pit_model.specs.Graph.{Graph, IsGraph}
use Rattle.pit_model.specs.Shells.{factor_of}
use Rattle.nesting.specs.Outermost.{AreLifted, IsPlacedIn}
use Rattle.nesting.proofs.Joining.{is_priced}
use Rattle.nesting.proofs.Outer.{lifted_are_shells, outer_blocks, pits_placed}
use Rattle.nesting.proofs.outermost.lift_shells.Goals as goal

pub lift_each-requires-clause-blocks : goal.lift_each-requires-clause-blocks
lift_each-requires-clause-blocks c i l =
    let outer = c.args.outer.now in
    let plan = c.args.plan.now in
    let graph = plan.graph.now.value in
    let within = c.requires.within in
    let is : c.deref-4.result.now ≡ outer.blocks.items = c.deref-4.ensures.value in
    let below = outer_blocks plan.direction plan.columns.now outer.columns graph outer.graph.value (factor_of plan.factors.now (length plan.factors.now - 1)) outer.blocks.items within.outermost i
    (subst (λ (xs : List ℕ). i < length xs) is l) in
    let at = ap (λ (xs : List ℕ). get_or xs i 0) is in
    let count : c.n.result ≡ graph.blocks = search rules in
    omega arith

pub lift_each-requires-clause-pits : goal.lift_each-requires-clause-pits
lift_each-requires-clause-pits c =
    let outer = c.args.outer.now in
    let plan = c.args.plan.now in
    let within = c.requires.within in
    subst (λ (xs : List ℕ). All (IsPlacedIn xs) c.args.inner.now) (sym c.deref-4.ensures.value)
    (pits_placed plan.direction plan.columns.now outer.columns plan.graph.now.value outer.graph.value (factor_of plan.factors.now (length plan.factors.now - 1)) outer.blocks.items c.args.inner.now
    within.outermost within.shells.each)

pub returns-clause-shells : goal.returns-clause-shells
returns-clause-shells c =
    let within = c.requires.within in
    let outer = c.args.outer.now in
    let plan = c.args.plan.now in
    let graph = plan.graph.now.value in
    let shells = c.args.inner.now in
    let lifted = c.in_ok-lift_each.field-0.items in
    let is_graph : IsGraph outer.graph.value.blocks outer.graph.value.pairs = subst (λ (h : Graph). IsGraph h.blocks h.pairs) c.deref-2.ensures c.law-4.ensures.graph in
    let count : c.n.result ≡ graph.blocks = search rules in
    let by = subst (λ (xs : List ℕ). AreLifted graph.blocks xs shells lifted (length shells)) c.deref-4.ensures.value
    (subst (λ n. AreLifted n c.deref-4.result.now shells lifted (length shells)) count c.in_ok-lift_each.ensures) in
    lifted_are_shells plan.direction plan.columns.now outer.columns graph outer.graph.value (factor_of plan.factors.now (length plan.factors.now - 1)) outer.blocks.items plan.factors.now shells lifted
    (is_priced plan.columns.now graph c.law-2.ensures c.requires.rows) c.law.ensures within.outermost is_graph.in_range refl within.shells by
