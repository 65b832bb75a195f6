-- The place of the first block that is not less: the block stands there, or nowhere.
use Rattle.std.proofs.Common.{◌≡◌, ◌∙◌, ◌<◌, ◌≤◌, ℕ, List, ◌==◌, length, get_or, sym, ap, subst, arith, ⊎_elim}
use Rattle.std.proofs.lemmas.Bool.{cases_eq, eq-eqb, ne_eqb, le-ltb}
use Rattle.report.proofs.Firsts.{rises, has_it, lacks_it}
use Rattle.report.proofs.shells.holds.Goals as goal

pub place_of-place-requires : goal.place_of-place-requires
place_of-place-requires c = subst (λ (xs : List ℕ). (i j : ℕ) → i ≤ j → j < length xs → get_or xs i 0 ≤ get_or xs j 0) (sym c.deref-pit.ensures.value) (rises c.args.shell.now.pit.items c.requires)

pub returns-then-place-pit : goal.returns-then-place-pit
returns-then-place-pit c =
    let xs = c.args.shell.now.pit.items in
    let u = c.args.block in
    let place = c.place_of-place.result in
    let is : c.deref-pit.result.now ≡ xs = c.deref-pit.ensures.value in
    let before = subst (λ (ys : List ℕ). (i : ℕ) → i < place → get_or ys i 0 < u) is c.place_of-place.ensures.before in
    let after = subst (λ (ys : List ℕ). (i : ℕ) → place ≤ i → i < length ys → u ≤ get_or ys i 0) is c.place_of-place.ensures.after in
    let inside : place < length xs = subst (λ (ys : List ℕ). place < length ys) is c.if-place-pit.true in
    ap (λ (ys : List ℕ). get_or ys place 0 == u) is
    ∙ ⊎_elim
    (λ (e : get_or xs place 0 ≡ u). eq-eqb (get_or xs place 0) u e ∙ sym (has_it xs u place inside e))
    (λ (ne : get_or xs place 0 ≡ u → ⊥). ne_eqb (get_or xs place 0) u ne ∙ sym (lacks_it xs u place c.requires before after (λ l e. ne e)))
    (cases_eq (get_or xs place 0) u)

pub returns-else-place-pit : goal.returns-else-place-pit
returns-else-place-pit c =
    let xs = c.args.shell.now.pit.items in
    let u = c.args.block in
    let place = c.place_of-place.result in
    let is : c.deref-pit.result.now ≡ xs = c.deref-pit.ensures.value in
    let before = subst (λ (ys : List ℕ). (i : ℕ) → i < place → get_or ys i 0 < u) is c.place_of-place.ensures.before in
    let after = subst (λ (ys : List ℕ). (i : ℕ) → place ≤ i → i < length ys → u ≤ get_or ys i 0) is c.place_of-place.ensures.after in
    let outside : length xs ≤ place = subst (λ (ys : List ℕ). length ys ≤ place) is c.if-place-pit.false in
    le-ltb place (length c.deref-pit.result.now) c.if-place-pit.false
    ∙ sym (lacks_it xs u place c.requires before after (λ l e. absurd (omega arith)))
