-- A number that passes a test has a place among the members.
use Rattle.std.proofs.Common.{◌≡◌, ℕ, zero, suc, ◌<◌, Bool, true, false, sym, ap, ◌∙◌, arith, subst, ⊎_elim, List, [], ◌∷◌, ◌++◌, get_or, length}
use Rattle.std.proofs.lemmas.Bool.{cases_Bool, cases_eq}
use Rattle.std.proofs.lemmas.List.{get_or_append_left, get_or_at, length_push}
use Rattle.pit_model.specs.Mine.{members}
use Rattle.pit_model.proofs.Members.{members-in, members-out}

abbrev IsAt : List ℕ → ℕ → Type 0
IsAt xs k = (i : ℕ) × (i < length xs) × (get_or xs i 0 ≡ k)

before : (xs : List ℕ) (n k : ℕ) → IsAt xs k → IsAt (xs ++ n ∷ []) k
before xs n k f = let l = f.1 in (f.0, omega (arith, length_push xs n), get_or_append_left xs (n ∷ []) 0 f.0 f.1 ∙ f.2)

last : (xs : List ℕ) (n : ℕ) → IsAt (xs ++ n ∷ []) n
last xs n = (length xs, omega (arith, length_push xs n), get_or_at xs n [] 0 (length xs) (omega arith))

pub members_found : (n : ℕ) (set : ℕ → Bool) (k : ℕ) → k < n → set k ≡ true → (i : ℕ) × (i < length (members n set)) × (get_or (members n set) i 0 ≡ k)
members_found zero set k l h = absurd (omega arith)
members_found (suc n) set k l h = ⊎_elim
    (λ (e : k ≡ n). subst (λ xs. IsAt xs k) (sym (members-in n set (ap set (sym e) ∙ h))) (subst (λ m. IsAt (members n set ++ n ∷ []) m) (sym e) (last (members n set) n)))
    (λ (ne : k ≡ n → ⊥).
    let f = members_found n set k (omega arith) h in
    ⊎_elim
    (λ (so : set n ≡ true). subst (λ xs. IsAt xs k) (sym (members-in n set so)) (before (members n set) n k f))
    (λ (off : set n ≡ false). subst (λ xs. IsAt xs k) (sym (members-out n set off)) f)
    (cases_Bool (set n)))
    (cases_eq k n)
