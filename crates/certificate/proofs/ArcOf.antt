-- The number of a pair in a list of pairs.
use Rattle.std.proofs.Common.{◌≡◌, ℕ, zero, suc, ◌+◌, ◌<◌, ◌≤◌, ◌&&◌, cond, Bool, true, false, eqb, refl, sym, ap, ◌∙◌, arith, ⊎_elim, List, [], ◌∷◌, length, Some, None, eq-eqb}
use Rattle.std.specs.Prelude.{◌⊎◌}
use Rattle.std.proofs.lemmas.Bool.{cases_Bool, eqb-true, and_parts, and_from}
use Rattle.pit_model.specs.Graph.{first_of, second_of, AreInRange, AreRising}
use Rattle.certificate.specs.CertificateLines.{arc_from, arc_of}

-- no pair stands at any place, or the first stands at place i
pub arc_none : (k u p : ℕ) (pairs : List (ℕ × ℕ)) → ((i : ℕ) → i < length pairs → first_of pairs i ≡ u → second_of pairs i ≡ p → ⊥) → arc_from k pairs u p ≡ None
unfolding arc_from
arc_none k u p [] none = refl
arc_none k u p (q ∷ qs) none = ⊎_elim
    (λ (e : (eqb q.0 u && eqb q.1 p) ≡ true). let parts = and_parts (eqb q.0 u) (eqb q.1 p) e in absurd (none 0 (omega arith) (eqb-true q.0 u parts.0) (eqb-true q.1 p parts.1)))
    (λ (e : (eqb q.0 u && eqb q.1 p) ≡ false). ap (λ (b : Bool). cond b (Some k) (arc_from (k + 1) qs u p)) e ∙ arc_none (k + 1) u p qs (λ i l a b. none (suc i) (omega arith) a b))
    (cases_Bool (eqb q.0 u && eqb q.1 p))

pub arc_some : (k u p i : ℕ) (pairs : List (ℕ × ℕ)) → i < length pairs → first_of pairs i ≡ u → second_of pairs i ≡ p
    → ((j : ℕ) → j < i → first_of pairs j ≡ u → second_of pairs j ≡ p → ⊥) → arc_from k pairs u p ≡ Some (k + i)
unfolding arc_from
arc_some k u p i [] l a b new = absurd (omega arith)
arc_some k u p zero (q ∷ qs) l a b new =
    let same : k ≡ k + 0 = omega arith in
    ap (λ (b : Bool). cond b (Some k) (arc_from (k + 1) qs u p)) (and_from (eqb q.0 u) (eqb q.1 p) (eq-eqb q.0 u a) (eq-eqb q.1 p b)) ∙ ap (λ (m : ℕ). Some m) same
arc_some k u p (suc i) (q ∷ qs) l a b new = ⊎_elim
    (λ (e : (eqb q.0 u && eqb q.1 p) ≡ true). let parts = and_parts (eqb q.0 u) (eqb q.1 p) e in absurd (new 0 (omega arith) (eqb-true q.0 u parts.0) (eqb-true q.1 p parts.1)))
    (λ (e : (eqb q.0 u && eqb q.1 p) ≡ false).
    let same : k + 1 + i ≡ k + suc i = omega arith in
    ap (λ (b : Bool). cond b (Some k) (arc_from (k + 1) qs u p)) e ∙ arc_some (k + 1) u p i qs (omega arith) a b (λ j m x y. new (suc j) (omega arith) x y) ∙ ap (λ (m : ℕ). Some m) same)
    (cases_Bool (eqb q.0 u && eqb q.1 p))

-- where the pairs rise, a pair stands once
pub arc_found : (pairs : List (ℕ × ℕ)) (i : ℕ) → AreRising pairs → i < length pairs → arc_of pairs (first_of pairs i) (second_of pairs i) ≡ Some i
arc_found pairs i rising l =
    let same : 0 + i ≡ i = omega arith in
    arc_some 0 (first_of pairs i) (second_of pairs i) i pairs l refl refl
    (λ j m a b. ⊎_elim
    (λ (h : first_of pairs j < first_of pairs i). omega arith)
    (λ (h : (first_of pairs j ≡ first_of pairs i) × (second_of pairs j < second_of pairs i)). let lt = h.1 in omega arith)
    (rising j i m l))
    ∙ ap (λ (m : ℕ). Some m) same

-- what is found is the pair
abbrev IsArc : ℕ → List (ℕ × ℕ) → ℕ → ℕ → ℕ → Type 0
IsArc k pairs u p a = (i : ℕ) × (a ≡ k + i) × (i < length pairs) × (first_of pairs i ≡ u) × (second_of pairs i ≡ p)

some_is : (a b : ℕ) → Some a ≡ Some b → a ≡ b
some_is a b e = cc

arc_at : (k u p a : ℕ) (pairs : List (ℕ × ℕ)) → arc_from k pairs u p ≡ Some a → IsArc k pairs u p a
unfolding arc_from
arc_at k u p a [] e = absurd cc
arc_at k u p a (q ∷ qs) e = ⊎_elim
    (λ (h : (eqb q.0 u && eqb q.1 p) ≡ true).
    let parts = and_parts (eqb q.0 u) (eqb q.1 p) h in
    let is : k ≡ a = some_is k a (sym (ap (λ (b : Bool). cond b (Some k) (arc_from (k + 1) qs u p)) h) ∙ e) in
    (0, omega arith, omega arith, eqb-true q.0 u parts.0, eqb-true q.1 p parts.1))
    (λ (h : (eqb q.0 u && eqb q.1 p) ≡ false).
    let f = arc_at (k + 1) u p a qs (sym (ap (λ (b : Bool). cond b (Some k) (arc_from (k + 1) qs u p)) h) ∙ e) in
    let at = f.1 in let l = f.2 in
    (suc f.0, omega arith, omega arith, f.3, f.4))
    (cases_Bool (eqb q.0 u && eqb q.1 p))

pub arc_is : (pairs : List (ℕ × ℕ)) (u p a : ℕ) → arc_of pairs u p ≡ Some a → (a < length pairs) × (first_of pairs a ≡ u) × (second_of pairs a ≡ p)
arc_is pairs u p a e =
    let f = arc_at 0 u p a pairs e in
    let at = f.1 in let l = f.2 in
    let same : f.0 ≡ a = omega arith in
    (omega arith, ap (first_of pairs) (sym same) ∙ f.3, ap (second_of pairs) (sym same) ∙ f.4)

-- no pair of blocks below n has an end above
pub arc_outside : (pairs : List (ℕ × ℕ)) (n u p : ℕ) → AreInRange pairs n → (n ≤ u) ⊎ (n ≤ p) → arc_of pairs u p ≡ None
arc_outside pairs n u p range out = arc_none 0 u p pairs (λ i l a b.
    let r = range i l in let x = r.0 in let y = r.1 in
    ⊎_elim (λ (h : n ≤ u). omega arith) (λ (h : n ≤ p). omega arith) out)
