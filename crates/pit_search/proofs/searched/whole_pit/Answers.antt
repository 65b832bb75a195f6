-- Where blocks are fixed, the pit of the rest is joined with what must be dug.
use Rattle.std.proofs.Common.{◌≡◌, ℕ, ◌<◌, Bool, List, ap, sym, subst, ◌∙◌, length, get_or}
use Rattle.std.proofs.lemmas.Result.{IfOk-weaker}
use Rattle.pit_model.specs.declared.direction.Direction.{Direction}
use Rattle.pit_model.specs.Pit.{ListsPit, no_blocks_fixed}
use Rattle.pit_model.specs.Fixed.{fixed_of}
use Rattle.pit_model.specs.Mine.{Instance, members}
use Rattle.merging.proofs.Resting.{none_both}
use Rattle.merging.specs.Reduced.{ListsJoined}
use Rattle.pit_search.specs.Searched.{IsOpenPart}
use Rattle.pit_search.proofs.Searching.{found_inside, joined_pit}
use Rattle.pit_search.proofs.searched.whole_pit.Goals as goal

pub join_pit-requires-clause-apart : goal.join_pit-requires-clause-apart
join_pit-requires-clause-apart c = none_both c.requires.mine c.args.fixed.now c.requires.fixed_blocks

pub join_pit-requires-clause-found : goal.join_pit-requires-clause-found
join_pit-requires-clause-found c =
    let mine = c.requires.mine in
    let fixed = c.args.fixed.now in
    let blocks = c.in-Some.blocks in
    let pit = c.args.pit.items in
    let here = subst (λ o. IsOpenPart mine fixed o c.requires.rest) c.in-Some.is c.requires.open_part in
    subst (λ (ys : List ℕ). (i : ℕ) → i < length c.deref-in-Some.result.now → get_or c.deref-in-Some.result.now i 0 < length ys) (sym c.deref.ensures.value)
    (subst (λ (xs : List ℕ). (i : ℕ) → i < length xs → get_or xs i 0 < length blocks.items) (sym c.deref-in-Some.ensures.value)
    (found_inside mine fixed (record { blocks = blocks; mine = c.requires.rest }) pit c.requires.listed.set here.1 c.requires.listed.listed))

pub returns-in-Some-clause-shown : goal.returns-in-Some-clause-shown
returns-in-Some-clause-shown c =
    let fixed = c.args.fixed.now in
    let blocks = c.in-Some.blocks in
    let pit = c.args.pit.items in
    IfOk-weaker c.join_pit.result
    (λ list. (set : ℕ → Bool) → c.deref-in-Some.result.now ≡ members (length c.deref.result.now) set → ListsJoined c.args.n fixed c.deref.result.now set list.items)
    (λ list. (direction : Direction) (mine rest : Instance) → c.args.n ≡ mine.blocks → IsOpenPart mine fixed c.args.blocks rest → ListsPit direction rest no_blocks_fixed pit → ListsPit direction mine (fixed_of fixed.lists) list.items)
    (λ list joined direction mine rest counted open_part shown.
    let here = subst (λ o. IsOpenPart mine fixed o rest) c.in-Some.is open_part in
    joined_pit direction mine fixed (record { blocks = blocks; mine = rest }) pit list.items here.1 shown
    (λ set listed. subst (λ n. ListsJoined n fixed blocks.items set list.items) counted
    (subst (λ (xs : List ℕ). ListsJoined c.args.n fixed xs set list.items) c.deref.ensures.value
    (joined set (c.deref-in-Some.ensures.value ∙ listed ∙ ap (λ (xs : List ℕ). members (length xs) set) (sym c.deref.ensures.value))))))
    c.join_pit.ensures.joined
