-- What holds of each item of a list, and of one more, holds of each item of the longer list.
use Rattle.std.proofs.Common.{◌≡◌, ℕ, ◌+◌, ◌<◌, List, [], ◌∷◌, ◌++◌, length, get_or, sym, ap, ◌∙◌, subst, arith, below_more, length-append}
use Rattle.std.proofs.Math.ListN.{get_or-append}
use Rattle.std.proofs.Math.Seq.{get_or-append_seam}

pub count_pushed : {A : Type 0} (xs ys : List A) (x : A) (n : ℕ) → ys ≡ xs ++ x ∷ [] → length xs ≡ n → length ys ≡ n + 1
count_pushed {A = A} xs ys x n are count = ap (λ (zs : List A). length zs) are ∙ length-append xs (x ∷ []) ∙ ap (λ m. m + 1) count

pub kept_pushed : {A : Type 0} (none : A) (old xs ys : List A) (x : A) → ys ≡ xs ++ x ∷ [] → length old < length xs + 1
    → ((j : ℕ) → j < length old → get_or xs j none ≡ get_or old j none) → (j : ℕ) → j < length old → get_or ys j none ≡ get_or old j none
kept_pushed {A = A} none old xs ys x are long kept j h =
    ap (λ (zs : List A). get_or zs j none) are ∙ get_or-append xs (x ∷ []) none j (omega arith) ∙ kept j h

-- from a place on
pub each_pushed : {A : Type 0} (none : A) (P : ℕ → A → Type 0) (from : ℕ) (xs ys : List A) (x : A) (n : ℕ) → ys ≡ xs ++ x ∷ [] → length xs ≡ from + n
    → ((j : ℕ) → j < n → P j (get_or xs (from + j) none)) → P n x → (j : ℕ) → j < n + 1 → P j (get_or ys (from + j) none)
each_pushed {A = A} none P from xs ys x n are count each last =
    let long : (j : ℕ) → j < n + 1 → P j (get_or (xs ++ x ∷ []) (from + j) none) =
    below_more (λ j. P j (get_or (xs ++ x ∷ []) (from + j) none)) n
    (λ j h. subst (P j) (sym (get_or-append xs (x ∷ []) none (from + j) (omega arith))) (each j h))
    (subst (P n) (sym (ap (λ m. get_or (xs ++ x ∷ []) m none) (sym count) ∙ get_or-append_seam xs x [] none)) last) in
    subst (λ (zs : List A). (j : ℕ) → j < n + 1 → P j (get_or zs (from + j) none)) (sym are) long

-- from the start on
pub each_from_start : {A : Type 0} (none : A) (P : ℕ → A → Type 0) (xs ys : List A) (x : A) (n : ℕ) → ys ≡ xs ++ x ∷ [] → length xs ≡ n
    → ((j : ℕ) → j < n → P j (get_or xs j none)) → P n x → (j : ℕ) → j < n + 1 → P j (get_or ys j none)
each_from_start {A = A} none P xs ys x n are count each last =
    let long : (j : ℕ) → j < n + 1 → P j (get_or (xs ++ x ∷ []) j none) =
    below_more (λ j. P j (get_or (xs ++ x ∷ []) j none)) n
    (λ j h. subst (P j) (sym (get_or-append xs (x ∷ []) none j (omega arith))) (each j h))
    (subst (P n) (sym (ap (λ m. get_or (xs ++ x ∷ []) m none) (sym count) ∙ get_or-append_seam xs x [] none)) last) in
    subst (λ (zs : List A). (j : ℕ) → j < n + 1 → P j (get_or zs j none)) (sym are) long
