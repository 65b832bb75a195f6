-- One block more is marked; at the end those without a mark are not on the list.
use Rattle.std.proofs.Common.{◌≡◌, ℕ, Bool, not, List, arith, ap, subst, ◌∙◌, length}
use Rattle.std.proofs.lemmas.Result.{IfOk-weaker}
use Rattle.pit_model.specs.Mine.{members}
use Rattle.optimality.specs.Check.{has}
use Rattle.pit_search.proofs.Marking.{IsMarking, one_more, unmarked_members}
use Rattle.pit_search.proofs.dual.outside.Goals as goal

pub loop-u-preserved : goal.loop-u-preserved
loop-u-preserved c = one_more c.args.n c.args.found.now c.loop-u.inside.items c.loop-u.u-index (c.requires c.loop-u.u-index c.loop-u-test.true) c.loop-u.invariant

pub returns : goal.returns
returns c =
    let n = c.args.n in
    let found = c.args.found.now in
    let end : c.loop-u.u-index ≡ length found = omega (arith, c.loop-u.auto.u-index-end, c.loop-u-test.false) in
    let marking = subst (λ k. IsMarking n found c.loop-u.inside.items k) end c.loop-u.invariant in
    IfOk-weaker c.unmarked.result
    (λ list. list.items ≡ members (length c.deref.result.now) (λ u. not (has c.deref.result.now u)))
    (λ list. (set : ℕ → Bool) → found ≡ members n set → list.items ≡ members n (λ u. not (set u)))
    (λ list are set listed.
    are
    ∙ ap (λ (marks : List Bool). members (length marks) (λ u. not (has marks u))) c.deref.ensures.value
    ∙ unmarked_members n found c.loop-u.inside.items set marking listed) c.unmarked.ensures
