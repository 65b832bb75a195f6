-- As many different numbers as there are places.
use Rattle.std.proofs.Common.{◌≡◌, ℕ, suc, ◌+◌, ◌<◌, ◌≤◌, true, false, eqb, sym, ap, ◌∙◌, arith, subst, ⊎_elim, List, [], ◌∷◌, ◌++◌, take, get_or, length}
use Rattle.std.specs.List.{IsDistinct, AllByRecursion, list_any}
use Rattle.std.proofs.lemmas.Bool.{cases_eq, false≢true}
use Rattle.std.proofs.lemmas.Bool.Decides.{eqb_tells}
use Rattle.std.proofs.lemmas.Map.Steps.{length-le_from_distinct_below}
use Rattle.std.proofs.lemmas.List.{get_or-take, length-take-le, get_or_append_left, get_or_at, length_push}

all_apart : (x : ℕ) (xs : List ℕ) → ((k : ℕ) → k < length xs → x ≡ get_or xs k 0 → ⊥) → AllByRecursion (λ y. eqb x y ≡ false) xs
all_apart x [] apart = tt
all_apart x (y ∷ xs) apart =
    (⊎_elim (λ s. absurd (apart 0 (omega arith) s.1)) (λ s. s.0) (eqb_tells x y), all_apart x xs (λ k h. apart (suc k) (omega arith)))

distinct_from_places : (xs : List ℕ) → ((i j : ℕ) → i < j → j < length xs → get_or xs i 0 ≡ get_or xs j 0 → ⊥) → IsDistinct eqb xs
unfolding IsDistinct
distinct_from_places [] apart = tt
distinct_from_places (x ∷ xs) apart =
    (all_apart x xs (λ k h e. apart 0 (suc k) (omega arith) (omega arith) e), distinct_from_places xs (λ i j h l e. apart (suc i) (suc j) (omega arith) (omega arith) e))

found_below : (xs : List ℕ) (n q : ℕ) → ((k : ℕ) → k < length xs → get_or xs k 0 < n) → list_any (eqb q) xs ≡ true → q < n
found_below [] n q below h = absurd (false≢true h)
found_below (x ∷ xs) n q below h =
    ⊎_elim
    (λ s. let e = s.1 in let z = below 0 (omega arith) in omega arith)
    (λ s. found_below xs n q (λ k l. below (suc k) (omega arith)) (rw s.0 at h))
    (eqb_tells q x)

-- as many different numbers below n as there are places: no more than n
pub pigeon : (xs : List ℕ) (n : ℕ) → ((i j : ℕ) → i < j → j < length xs → get_or xs i 0 ≡ get_or xs j 0 → ⊥) → ((k : ℕ) → k < length xs → get_or xs k 0 < n) → length xs ≤ n
pigeon xs n apart below = length-le_from_distinct_below xs n (distinct_from_places xs apart) (λ q h. found_below xs n q below h)

-- a number beside the first places of a list
pub pigeon_more : (xs : List ℕ) (t n u : ℕ) → t ≤ length xs → u < n
    → ((i : ℕ) → i < t → get_or xs i 0 < n) → ((i : ℕ) → i < t → get_or xs i 0 ≡ u → ⊥)
    → ((i j : ℕ) → i < j → j < t → get_or xs i 0 ≡ get_or xs j 0 → ⊥) → t < n
pigeon_more xs t n u room l below new apart =
    let front : List ℕ = take t xs in
    let size : length front ≡ t = length-take-le t xs room in
    let ys : List ℕ = front ++ u ∷ [] in
    let count : length ys ≡ length front + 1 = length_push front u in
    let at : (i : ℕ) → i < t → get_or ys i 0 ≡ get_or xs i 0 = λ i h. get_or_append_left front (u ∷ []) 0 i (omega arith) ∙ get_or-take t xs i 0 h in
    let end : get_or ys t 0 ≡ u = get_or_at front u [] 0 t size in
    let fits : length ys ≤ n = pigeon ys n
    (λ i j h m e. ⊎_elim
    (λ (s : j ≡ t). new i (omega arith) (sym (at i (omega arith)) ∙ e ∙ ap (λ k. get_or ys k 0) s ∙ end))
    (λ (ne : j ≡ t → ⊥). apart i j h (omega arith) (sym (at i (omega arith)) ∙ e ∙ at j (omega arith)))
    (cases_eq j t))
    (λ k h. ⊎_elim
    (λ (s : k ≡ t). subst (λ x. x < n) (sym (ap (λ k. get_or ys k 0) s ∙ end)) l)
    (λ (ne : k ≡ t → ⊥). subst (λ x. x < n) (sym (at k (omega arith))) (below k (omega arith)))
    (cases_eq k t)) in
    omega arith
