-- The blocks outside the pit of the rest's dual are its greatest pit.
use Rattle.std.proofs.Common.{◌≡◌, ℕ, ◌<◌, Bool, not, List, ap, sym, subst, ◌∙◌, length, get_or}
use Rattle.pit_model.specs.declared.direction.Direction.TheVariants.{Greatest}
use Rattle.pit_model.specs.Graph.{Graph}
use Rattle.pit_model.specs.Mine.{members}
use Rattle.pit_search.specs.Searched.{IsToward}
use Rattle.pit_search.proofs.Searching.{inside_listed, turned_pit}
use Rattle.pit_search.proofs.searched.pit_toward.Goals as goal

pub outside-requires : goal.outside-requires
outside-requires c =
    let other = c.args.instance.now in
    let found = c.args.found.items in
    let count : c.n.result ≡ other.blocks = c.n.ensures ∙ ap (λ (g : Graph). g.blocks) c.deref.ensures ∙ c.graph.ensures.blocks in
    subst (λ (xs : List ℕ). (i : ℕ) → i < length xs → get_or xs i 0 < c.n.result) (sym c.deref-in-Greatest.ensures.value)
    (subst (λ n. (i : ℕ) → i < length found → get_or found i 0 < n) (sym count) (inside_listed other.blocks found c.requires.set c.requires.listed))

pub returns-in_ok-outside-in-Greatest-clause-shown :
    goal.returns-in_ok-outside-in-Greatest-clause-shown
returns-in_ok-outside-in-Greatest-clause-shown c rest toward =
    let other = c.args.instance.now in
    let list = c.in_ok-outside-in-Greatest.field-0.items in
    let faced : IsToward Greatest rest other = subst (λ d. IsToward d rest other) c.in-Greatest.is toward in
    let count : c.n.result ≡ rest.blocks = c.n.ensures ∙ ap (λ (g : Graph). g.blocks) c.deref.ensures ∙ c.graph.ensures.blocks ∙ faced.0.reversed.same_blocks in
    rw (c.in-Greatest.is) (turned_pit rest other c.args.found.items list faced.0 c.requires
    (subst (λ (xs : List ℕ). (set : ℕ → Bool) → xs ≡ members rest.blocks set → list ≡ members rest.blocks (λ u. not (set u))) c.deref-in-Greatest.ensures.value
    (subst (λ n. (set : ℕ → Bool) → c.deref-in-Greatest.result.now ≡ members n set → list ≡ members n (λ u. not (set u))) count c.in_ok-outside-in-Greatest.ensures)))
