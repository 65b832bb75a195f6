-- A pit lists its members.
use Rattle.std.proofs.Common.{◌≡◌, ◌<◌, ◌≤◌, ◌∙◌, List, length, subst, sym}
use Rattle.std.specs.Prelude.{ℕ}
use Rattle.std.specs.List.{All}
use Rattle.pit_model.specs.Mine.{members}
use Rattle.pit_model.proofs.Members.{members_below, members_few}
use Rattle.schedule_bound.proofs.worth_of_pit.Goals as goal

pub worth-requires-clause-few : goal.worth-requires-clause-few
worth-requires-clause-few c =
    let n = c.args.nodes.now.blocks in
    let shown = c.in_ok-pit.ensures.shown in
    let is : c.deref.result.now ≡ members n shown.set = c.deref.ensures.value ∙ shown.listed in
    subst (λ (xs : List ℕ). length xs ≤ n) (sym is) (members_few n shown.set)

pub worth-requires-clause-below : goal.worth-requires-clause-below
worth-requires-clause-below c =
    let n = c.args.nodes.now.blocks in
    let shown = c.in_ok-pit.ensures.shown in
    let is : c.deref.result.now ≡ members n shown.set = c.deref.ensures.value ∙ shown.listed in
    subst (All (λ u. u < n)) (sym is) (members_below n shown.set)
