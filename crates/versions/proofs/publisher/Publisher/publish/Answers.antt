use Rattle.std.proofs.Common.{◌≡◌, ℕ, [], ◌∷◌, ◌++◌, List, drop, fold, sym, ap, ◌∙◌, subst}
use Rattle.std.specs.Prelude.{IsTrue}
use Rattle.pit_model.specs.Mine.{Instance}
use Rattle.pit_model.specs.Tree.{is_merger}
use Rattle.pit_model.specs.Version.{version_tree}
use Rattle.versions.specs.Published.{Copied, taken_in}
use Rattle.versions.proofs.Copies.{published_more}
use Rattle.versions.proofs.publisher.Publisher.publish.Goals as goal

pub invariant_of-self-2 : goal.invariant_of-self-2
invariant_of-self-2 g c =
    let mine = g.V.ListId.mine in
    let i = c.self.invariant in
    let did = c.in-Ok.ensures in
    let copy : Copied = c.self.inside.copies.desk.shown.value in
    let arc : ℕ = c.args.arc in
    let arcs : List ℕ = c.self.inside.list_writer in
    let here : IsTrue (is_merger mine copy.tree arc) = subst (λ t. IsTrue (is_merger mine t arc)) (ap (version_tree mine) (sym c.self.view_is) ∙ sym i.version.gives) c.requires in
    let is : IsTrue (is_merger copy.mine copy.tree arc) = subst (λ (m : Instance). IsTrue (is_merger m copy.tree arc)) (sym i.instance) here in
    let addition : c.new-addition.result ≡ (arcs, arc) = c.new-addition.ensures ∙ ap (λ (l : List ℕ). (l, arc)) c.whole.ensures in
    let now : c.show.new.copies.desk.shown.value ≡ taken_in copy (arcs, arc) = c.show.ensures.shown
    ∙ (ap (λ d. fold taken_in d.shown.value (drop c.append.new.self.behind c.append.new.self.log.items)) did.desk
    ∙ ap (λ l. fold taken_in copy l) (did.pending ∙ ap (λ l. l ++ c.new-addition.result ∷ []) i.none_left)
    ∙ ap (taken_in copy) addition) in
    published_more mine copy c.show.new.copies.desk.shown.value c.self.inside.list_writer c.write.new.self (drop c.self.inside.copies.behind c.self.inside.copies.log.items) (drop c.show.new.copies.behind c.show.new.copies.log.items) arc i is now c.write.ensures c.show.ensures.none_left
