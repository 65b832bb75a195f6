use Rattle.std.proofs.Common.{◌≡◌, ℕ, List, [], ◌∷◌, ◌++◌, true, refl, sym, ap, ◌∙◌, subst}
use Rattle.std.specs.Prelude.{IsTrue}
use Rattle.pit_model.specs.Mine.{Instance}
use Rattle.pit_model.specs.Tree.{Tree, is_merger}
use Rattle.pit_model.specs.Merger.{merged}
use Rattle.pit_model.specs.Version.{IsVersion}
use Rattle.pit_model.proofs.Versions.{version-snoc}
use Rattle.versions.specs.Published.{Copied, copied, taken_in, are_same}
use Rattle.versions.proofs.Copies.{grown_copy, takes_in}
use Rattle.versions.proofs.tree_copy.TreeCopyAbsorbAddition.absorb_first.Goals as goal

pub invariant_of-self : goal.invariant_of-self
invariant_of-self g c =
    let mine = g.V.ListId.mine in
    let fields = c.self.inside in
    let i = c.self.invariant in
    let did = c.try_merge.ensures in
    let arc : ℕ = c.args.operation.now.1 in
    let is : IsTrue (is_merger mine fields.tree.tree arc) = subst (λ (a : ℕ). IsTrue (is_merger mine fields.tree.tree a)) c.arc.ensures (subst (λ (m : Instance). IsTrue (is_merger m fields.tree.tree c.arc.result)) i.0 (sym did.exact ∙ c.if-try_merge.true)) in
    let tree : c.try_merge.new.self.tree ≡ merged mine fields.tree.tree arc = did.merged c.if-try_merge.true ∙ ap (λ (m : Instance). merged m fields.tree.tree c.arc.result) i.0 ∙ ap (merged mine fields.tree.tree) c.arc.ensures in
    let before : c.args.operation.now.0 ≡ fields.arcs = sym c.before-2.ensures ∙ c.if-are.ensures.same refl in
    let arcs : c.grow.new.self ≡ fields.arcs ++ arc ∷ [] = c.grow.ensures ∙ ap (λ (l : List ℕ). l ++ arc ∷ []) before in
    (did.mine ∙ i.0, subst (λ (p : Tree × List ℕ). IsVersion mine p.0 p.1) (λ n. (sym tree n, sym arcs n)) (version-snoc mine fields.tree.tree fields.arcs arc i.1 is))

pub returns-then-try_merge-clause-absorbed : goal.returns-then-try_merge-clause-absorbed
returns-then-try_merge-clause-absorbed g c =
    let fields = c.self.inside in
    let did = c.try_merge.ensures in
    let operation : List ℕ × ℕ = c.args.operation.now in
    let was : Copied = copied fields.tree fields.arcs in
    let is : IsTrue (is_merger fields.tree.mine fields.tree.tree operation.1) = subst (λ (a : ℕ). IsTrue (is_merger fields.tree.mine fields.tree.tree a)) c.arc.ensures (sym did.exact ∙ c.if-try_merge.true) in
    let same : are_same fields.arcs operation.0 ≡ true = ap (are_same fields.arcs) (sym c.before-2.ensures) ∙ sym c.if-are.ensures.exact in
    let tree : c.try_merge.new.self.tree ≡ merged fields.tree.mine fields.tree.tree operation.1 = did.merged c.if-try_merge.true ∙ ap (merged fields.tree.mine fields.tree.tree) c.arc.ensures in
    let now : copied c.try_merge.new.self c.grow.new.self ≡ grown_copy was operation = λ i. record { mine = did.mine i; tree = tree i; arcs = c.grow.ensures i } in
    now ∙ takes_in was operation same is ∙ ap (λ (t : Copied). taken_in t operation) c.self.view_is
