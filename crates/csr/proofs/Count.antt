-- Laws of `count`.
use Rattle.std.proofs.Common.{◌≡◌, ℕ, zero, suc, ◌+◌, ◌<◌, ◌≤◌, Bool, true, false, refl, sym, ap, ◌∙◌, arith, ⊎_elim}
use Rattle.std.proofs.lemmas.Bool.{cases_eq, cases_Bool}
use Rattle.csr.specs.Count.{count}

pub count-yes : (k : ℕ) (t : ℕ → Bool) → t k ≡ true → count (suc k) t ≡ count k t + 1
unfolding count
count-yes k t e = rw e refl

pub count-no : (k : ℕ) (t : ℕ → Bool) → t k ≡ false → count (suc k) t ≡ count k t
unfolding count
count-no k t e = rw e (omega arith)

pub count-zero : (t : ℕ → Bool) → count 0 t ≡ 0
unfolding count
count-zero t = refl

pub count-same : (m : ℕ) (s t : ℕ → Bool) → ((k : ℕ) → k < m → s k ≡ t k) → count m s ≡ count m t
count-same zero s t same = count-zero s ∙ sym (count-zero t)
count-same (suc m) s t same =
    let rest : count m s ≡ count m t = count-same m s t (λ k h. same k (omega arith)) in
    let last : s m ≡ t m = same m (omega arith) in
    ⊎_elim
    (λ (e : t m ≡ true). omega (arith, rest, count-yes m s (last ∙ e), count-yes m t e))
    (λ (e : t m ≡ false). omega (arith, rest, count-no m s (last ∙ e), count-no m t e))
    (cases_Bool (t m))

-- one place fewer
pub count-fewer : (m i : ℕ) (s t : ℕ → Bool) → i < m → s i ≡ true → t i ≡ false → ((k : ℕ) → k < m → (k ≡ i → ⊥) → s k ≡ t k) → count m s ≡ count m t + 1
count-fewer zero i s t l so off same = absurd (omega arith)
count-fewer (suc m) i s t l so off same = ⊎_elim
    (λ (e : i ≡ m).
    let rest : count m s ≡ count m t = count-same m s t (λ k h. same k (omega arith) (λ u. omega arith)) in
    omega (arith, count-yes m s (ap s (sym e) ∙ so), count-no m t (ap t (sym e) ∙ off)))
    (λ (ne : i ≡ m → ⊥).
    let rest : count m s ≡ count m t + 1 = count-fewer m i s t (omega arith) so off (λ k h u. same k (omega arith) u) in
    let last : s m ≡ t m = same m (omega arith) (λ u. ne (sym u)) in
    ⊎_elim
    (λ (e : t m ≡ true). omega (arith, rest, count-yes m s (last ∙ e), count-yes m t e))
    (λ (e : t m ≡ false). omega (arith, rest, count-no m s (last ∙ e), count-no m t e))
    (cases_Bool (t m)))
    (cases_eq i m)

pub count-none : (m : ℕ) (t : ℕ → Bool) → count m t ≡ 0 → (k : ℕ) → k < m → t k ≡ false
count-none zero t e k l = absurd (omega arith)
count-none (suc m) t e k l = ⊎_elim
    (λ (so : t m ≡ true). absurd (omega (arith, count-yes m t so)))
    (λ (off : t m ≡ false). ⊎_elim
    (λ (s : k ≡ m). ap t s ∙ off)
    (λ (ne : k ≡ m → ⊥). count-none m t (omega (arith, count-no m t off)) k (omega arith))
    (cases_eq k m))
    (cases_Bool (t m))

pub count-some : (m : ℕ) (t : ℕ → Bool) → (count m t ≡ 0 → ⊥) → (k : ℕ) × (k < m) × (t k ≡ true)
count-some zero t ne = absurd (ne (count-zero t))
count-some (suc m) t ne = ⊎_elim
    (λ (so : t m ≡ true). (m, omega arith, so))
    (λ (off : t m ≡ false). let r = count-some m t (λ e. ne (count-no m t off ∙ e)) in (r.0, omega (arith, r.1), r.2))
    (cases_Bool (t m))

pub count-le : (m : ℕ) (t : ℕ → Bool) → count m t ≤ m
count-le zero t = omega (arith, count-zero t)
count-le (suc m) t = ⊎_elim
    (λ (so : t m ≡ true). omega (arith, count-yes m t so, count-le m t))
    (λ (off : t m ≡ false). omega (arith, count-no m t off, count-le m t))
    (cases_Bool (t m))

-- numbers pass a test as far as one, and none from there on
pub count-front : (n u : ℕ) (t : ℕ → Bool) → u ≤ n → ((v : ℕ) → v < u → t v ≡ true) → ((v : ℕ) → u ≤ v → v < n → t v ≡ false) → count n t ≡ u
count-front zero u t fits so off = omega (arith, count-zero t)
count-front (suc n) u t fits so off = ⊎_elim
    (λ (e : u ≡ suc n). omega (arith, count-yes n t (so n (omega arith)), count-front n n t (omega arith) (λ v h. so v (omega arith)) (λ v h l. absurd (omega arith))))
    (λ (ne : u ≡ suc n → ⊥). omega (arith, count-no n t (off n (omega arith) (omega arith)), count-front n u t (omega arith) so (λ v h l. off v h (omega arith))))
    (cases_eq u (suc n))

-- where a number that passes is behind others that pass, so many pass as stand in front of the first that does not
pub count-cut : (n : ℕ) (t : ℕ → Bool) → ((v w : ℕ) → v < w → w < n → t w ≡ true → t v ≡ true)
    → ((v : ℕ) → v < count n t → t v ≡ true) × ((v : ℕ) → count n t ≤ v → v < n → t v ≡ false)
count-cut zero t falls = ((λ v h. absurd (omega (arith, count-zero t))), (λ v h l. absurd (omega arith)))
count-cut (suc n) t falls = ⊎_elim
    (λ (so : t n ≡ true).
    let upto : (v : ℕ) → v < suc n → t v ≡ true = λ v h. ⊎_elim
    (λ (e : v ≡ n). ap t e ∙ so)
    (λ (ne : v ≡ n → ⊥). falls v n (omega arith) (omega arith) so)
    (cases_eq v n) in
    let all : count (suc n) t ≡ suc n = count-front (suc n) (suc n) t (omega arith) upto (λ v h l. absurd (omega arith)) in
    ((λ v h. upto v (omega arith)), (λ v h l. absurd (omega arith))))
    (λ (off : t n ≡ false).
    let same = count-no n t off in
    let r = count-cut n t (λ v w h l s. falls v w h (omega arith) s) in (
      (λ v h. r.0 v (omega arith)),
      (λ v h l. ⊎_elim
          (λ (e : v ≡ n). ap t e ∙ off)
          (λ (ne : v ≡ n → ⊥). r.1 v (omega arith) (omega arith))
          (cases_eq v n)),
    ))
    (cases_Bool (t n))
