-- What holds of each number of a list, and of one more, holds of each number of the longer list.
use Rattle.std.proofs.Common.{◌≡◌, ℕ, ◌+◌, ◌<◌, List, [], ◌∷◌, ◌++◌, length, get_or, sym, ap, ◌∙◌, subst, arith, below_more, length-append}
use Rattle.std.proofs.Math.ListN.{get_or-append}
use Rattle.std.proofs.Math.Seq.{get_or-append_seam}
use Rattle.std.specs.Prelude.{ℤ, pos}

pub each_pushed : (P : ℕ → ℤ → Type 0) (xs ys : List ℤ) (x : ℤ) (n : ℕ) → ys ≡ xs ++ x ∷ [] → length xs ≡ n → ((j : ℕ) → j < n → P j (get_or xs j (pos 0))) → P n x → (j : ℕ) → j < n + 1 → P j (get_or ys j (pos 0))
each_pushed P xs ys x n are count each last =
    let long : (j : ℕ) → j < n + 1 → P j (get_or (xs ++ x ∷ []) j (pos 0)) =
    below_more (λ j. P j (get_or (xs ++ x ∷ []) j (pos 0))) n
    (λ j h. subst (P j) (sym (get_or-append xs (x ∷ []) (pos 0) j (omega arith))) (each j h))
    (subst (P n) (sym (ap (λ m. get_or (xs ++ x ∷ []) m (pos 0)) (sym count) ∙ get_or-append_seam xs x [] (pos 0))) last) in
    subst (λ (zs : List ℤ). (j : ℕ) → j < n + 1 → P j (get_or zs j (pos 0))) (sym are) long

pub count_pushed : (xs ys : List ℤ) (x : ℤ) (n : ℕ) → ys ≡ xs ++ x ∷ [] → length xs ≡ n → length ys ≡ n + 1
count_pushed xs ys x n are count = ap (λ (zs : List ℤ). length zs) are ∙ length-append xs (x ∷ []) ∙ ap (λ m. m + 1) count
