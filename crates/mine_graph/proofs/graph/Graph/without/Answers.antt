-- The blocks with label 0 are those that are not marked.
use Rattle.std.proofs.Common.{◌≡◌, ◌<◌, ℕ, List, not, false, length, get_or, ap, subst, ◌∙◌, arith}
use Rattle.std.proofs.lemmas.Result.{IfOk-weaker}
use Rattle.pit_model.specs.Mine.{members}
use Rattle.pit_model.specs.Part.{IsPart}
use Rattle.mine_graph.specs.Renumbered.{has_label}
use Rattle.pit_model.proofs.Members.{members_few, members_each, members_rise}
use Rattle.mine_graph.proofs.Renumbering.{part_ext}
use Rattle.mine_graph.proofs.graph.Graph.without.Goals as goal

pub place_blocks-requires-clause-few : goal.place_blocks-requires-clause-few
place_blocks-requires-clause-few c =
    let n = length c.deref.result.now in
    let is : c.deref-2.result.now ≡ members n (has_label c.deref.result.now 0) = c.deref-2.ensures.value ∙ c.in_ok-blocks.ensures in
    let size = ap (λ (xs : List ℕ). length xs) is in
    let labels = ap (λ (xs : List ℕ). length xs) c.deref.ensures.value ∙ c.in_ok-labels.ensures.count ∙ c.requires in
    omega (arith, members_few n (has_label c.deref.result.now 0), c.law.ensures.few_blocks)

pub place_blocks-requires-clause-rising : goal.place_blocks-requires-clause-rising
place_blocks-requires-clause-rising c =
    let is : c.deref-2.result.now ≡ members (length c.deref.result.now) (has_label c.deref.result.now 0) = c.deref-2.ensures.value ∙ c.in_ok-blocks.ensures in
    rw is (members_rise (length c.deref.result.now) (has_label c.deref.result.now 0))

pub place_blocks-requires-clause-inside : goal.place_blocks-requires-clause-inside
place_blocks-requires-clause-inside c i l =
    let n = length c.deref.result.now in
    let is : c.deref-2.result.now ≡ members n (has_label c.deref.result.now 0) = c.deref-2.ensures.value ∙ c.in_ok-blocks.ensures in
    let below = (members_each n (has_label c.deref.result.now 0) i (subst (λ xs. i < length xs) is l)).0 in
    let at = ap (λ xs. get_or xs i 0) is in
    let labels = ap (λ (xs : List ℕ). length xs) c.deref.ensures.value ∙ c.in_ok-labels.ensures.count ∙ c.requires in
    omega (arith, c.deref_mut.ensures.len, c.in_ok-places.ensures.len, c.n.ensures)

pub returns-clause-part : goal.returns-clause-part
returns-clause-part c =
    let labels = c.in_ok-labels.labels.items in
    let same : (u : ℕ) → u < c.args.self.now.blocks → has_label labels 0 u ≡ not (get_or c.args.taken.now u false) =
    λ u l. c.in_ok-labels.ensures.labels u (omega (arith, c.requires)) in
    IfOk-weaker c.part_of.result
    (λ p. IsPart c.args.self.now (has_label labels 0) p.blocks.items p.graph) (λ p. IsPart c.args.self.now (λ u. not (get_or c.args.taken.now u false)) p.blocks.items p.graph)
    (λ p is. part_ext c.args.self.now p.graph (has_label labels 0) (λ u. not (get_or c.args.taken.now u false)) p.blocks.items c.law.ensures.graph.in_range same is)
    (rw (c.deref-3.ensures.value) at c.part_of.ensures.part)
