-- The marked arcs, rising, are arcs of the tree's graph.
use Rattle.std.proofs.Common.{◌≡◌, ℕ, Bool, List, length, ap, sym, ◌∙◌}
use Rattle.pit_model.specs.Graph.{Graph}
use Rattle.pit_model.specs.Mine.{arcs}
use Rattle.optimality.specs.Check.{has}
use Rattle.merging.proofs.Planning.{listed_below, listed_rising, listed_few}
use Rattle.merging.proofs.plan.links_of.Goals as goal

pub graph_of_arcs-requires-clause-below : goal.graph_of_arcs-requires-clause-below
graph_of_arcs-requires-clause-below c =
    let own : c.instance.result.now ≡ c.args.tree.now.mine = c.instance.ensures in
    let marked : length c.deref.result.now ≡ arcs c.args.tree.now.mine = ap (λ (xs : List Bool). length xs) c.deref.ensures.value ∙ c.in_ok-marks.ensures in
    let whole : length c.deref-2.result.now.pairs ≡ length c.deref.result.now = ap (λ (g : Graph). length g.pairs) c.deref-2.ensures ∙ ap (λ (ps : List (ℕ × ℕ)). length ps) c.graph.ensures.pairs ∙ ap arcs own ∙ sym marked in
    listed_below c.deref-3.result.now (length c.deref.result.now) (length c.deref-2.result.now.pairs) (has c.deref.result.now) (c.deref-3.ensures.value ∙ c.in_ok-arcs.ensures) whole

pub graph_of_arcs-requires-clause-rising : goal.graph_of_arcs-requires-clause-rising
graph_of_arcs-requires-clause-rising c =
    let own : c.instance.result.now ≡ c.args.tree.now.mine = c.instance.ensures in
    let marked : length c.deref.result.now ≡ arcs c.args.tree.now.mine = ap (λ (xs : List Bool). length xs) c.deref.ensures.value ∙ c.in_ok-marks.ensures in
    let whole : length c.deref-2.result.now.pairs ≡ length c.deref.result.now = ap (λ (g : Graph). length g.pairs) c.deref-2.ensures ∙ ap (λ (ps : List (ℕ × ℕ)). length ps) c.graph.ensures.pairs ∙ ap arcs own ∙ sym marked in
    listed_rising c.deref-3.result.now (length c.deref.result.now) (length c.deref-2.result.now.pairs) (has c.deref.result.now) (c.deref-3.ensures.value ∙ c.in_ok-arcs.ensures) whole

pub graph_of_arcs-requires-clause-few : goal.graph_of_arcs-requires-clause-few
graph_of_arcs-requires-clause-few c =
    let own : c.instance.result.now ≡ c.args.tree.now.mine = c.instance.ensures in
    let marked : length c.deref.result.now ≡ arcs c.args.tree.now.mine = ap (λ (xs : List Bool). length xs) c.deref.ensures.value ∙ c.in_ok-marks.ensures in
    let whole : length c.deref-2.result.now.pairs ≡ length c.deref.result.now = ap (λ (g : Graph). length g.pairs) c.deref-2.ensures ∙ ap (λ (ps : List (ℕ × ℕ)). length ps) c.graph.ensures.pairs ∙ ap arcs own ∙ sym marked in
    listed_few c.deref-3.result.now (length c.deref.result.now) (length c.deref-2.result.now.pairs) (has c.deref.result.now) (c.deref-3.ensures.value ∙ c.in_ok-arcs.ensures) whole
