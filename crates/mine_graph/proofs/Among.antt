-- A number is among those of a list exactly where it stands at some place there.
use Rattle.std.proofs.Common.{◌≡◌, ℕ, suc, true, false, arith, ⊎_elim, List, [], ◌∷◌, eqb, get_or, length}
use Rattle.std.proofs.lemmas.Bool.{cases_Bool, eq-eqb, eqb-true, false≢true}
use Rattle.std.proofs.lemmas.List.Folds.{list_any_at}
use Rattle.pit_model.specs.Fixed.{is_among}
use Rattle.mine_graph.specs.BreadthFirst.{IsAt}

pub among_here : (xs : List ℕ) (u : ℕ) → IsAt (λ x. get_or xs x 0) 0 (length xs) u → is_among xs u ≡ true
among_here xs u at = list_any_at (λ x. eqb x u) xs at.0 0 at.2 (eq-eqb (get_or xs at.0 0) u at.3)

pub among_at : (xs : List ℕ) (u : ℕ) → is_among xs u ≡ true → IsAt (λ x. get_or xs x 0) 0 (length xs) u
among_at [] u h = absurd (false≢true h)
among_at (x ∷ xs) u h = ⊎_elim
    (λ (t : eqb x u ≡ true). (0, omega arith, omega arith, eqb-true x u t))
    (λ (t : eqb x u ≡ false).
    let r = among_at xs u (rw t at h) in
    (suc r.0, omega arith, omega (arith, r.2), r.3))
    (cases_Bool (eqb x u))
