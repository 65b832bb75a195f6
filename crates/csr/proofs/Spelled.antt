-- The pairs that rows spell are those whose rows they are.
use Rattle.std.proofs.Common.{◌≡◌, ℕ, zero, suc, ◌+◌, ◌-◌, ◌<◌, ◌≤◌, leb, refl, sym, ap, ◌∙◌, arith, subst, ⊎_elim, List, get_or, length, drop, map}
use Rattle.std.proofs.lemmas.Bool.{cases_eq, le-leb, lt-leb, leb-true, leb-false}
use Rattle.std.proofs.lemmas.List.{same_lists, get_or_default, get_or-drop, get_or-map, length-drop, length-map}
use Rattle.std.proofs.lemmas.List.FromFn.{get_or-map-range_with_len, length-map-range_with_len}
use Rattle.pit_model.specs.Graph.{first_of, second_of, AreInRange}
use Rattle.csr.specs.Rows.{row_at, pairs_of, AreTargets}
use Rattle.csr.proofs.Offsets.{AreOffsets}
use Rattle.csr.proofs.Count.{count-front, count-cut}

pub length-pairs_of : (offsets targets : List ℕ) → length (pairs_of offsets targets) ≡ length targets
unfolding pairs_of
length-pairs_of offsets targets = length-map-range_with_len (λ k. (row_at offsets k, get_or targets k 0)) 0 (length targets)

pub pairs_of-at : (offsets targets : List ℕ) (k : ℕ) → k < length targets → get_or (pairs_of offsets targets) k (0, 0) ≡ (row_at offsets k, get_or targets k 0)
unfolding pairs_of
pairs_of-at offsets targets k l = get_or-map-range_with_len (λ k. (row_at offsets k, get_or targets k 0)) 0 (length targets) k k (0, 0) l (let e : 0 + k ≡ k = omega arith in e)

pub second_at : (offsets targets : List ℕ) (k : ℕ) → k < length targets → second_of (pairs_of offsets targets) k ≡ get_or targets k 0
second_at offsets targets k l = ap (λ (q : ℕ × ℕ). q.1) (pairs_of-at offsets targets k l)

pub pair_same : (x y : ℕ × ℕ) → x.0 ≡ y.0 → x.1 ≡ y.1 → x ≡ y
pair_same x y p q = ap (λ a. (a, x.1)) p ∙ ap (λ b. (y.0, b)) q

-- the row that a place lies in, where the rows rise
module _ (offsets : List ℕ) (rise : (v w : ℕ) → v ≤ w → w < length offsets → get_or offsets v 0 ≤ get_or offsets w 0) where
  pub row_at-between : (u k : ℕ) → u + 1 < length offsets → get_or offsets u 0 ≤ k → k < get_or offsets (u + 1) 0 → row_at offsets k ≡ u
  unfolding row_at
  row_at-between u k below from to = count-front (length offsets - 1) u (λ v. leb (get_or offsets (suc v) 0) k) (omega arith)
      (λ v h. le-leb (get_or offsets (suc v) 0) k (omega (arith, rise (suc v) u (omega arith) (omega arith))))
      (λ v h l. lt-leb (get_or offsets (suc v) 0) k (let e : u + 1 ≡ suc u = omega arith in let s = ap (λ w. get_or offsets w 0) e in omega (arith, rise (suc u) (suc v) (omega arith) (omega arith))))

  -- the rows before end at the place or before it, and this one and those behind it end behind the place
  pub row_at-cut : (k : ℕ) → ((v : ℕ) → v < row_at offsets k → get_or offsets (suc v) 0 ≤ k) × ((v : ℕ) → row_at offsets k ≤ v → v < length offsets - 1 → k < get_or offsets (suc v) 0)
  unfolding row_at
  row_at-cut k =
      let r = count-cut (length offsets - 1) (λ v. leb (get_or offsets (suc v) 0) k)
      (λ v w h l t. let low = leb-true (get_or offsets (suc w) 0) k t in le-leb (get_or offsets (suc v) 0) k (omega (arith, rise (suc v) (suc w) (omega arith) (omega arith)))) in
      ((λ v h. leb-true (get_or offsets (suc v) 0) k (r.0 v h)), (λ v h l. leb-false (get_or offsets (suc v) 0) k (r.1 v h l)))

  pub row_at-begins : (k : ℕ) → 0 < length offsets → get_or offsets 0 0 ≤ k → get_or offsets (row_at offsets k) 0 ≤ k
  row_at-begins k some first = ⊎_elim
      (λ (e : row_at offsets k ≡ 0). let s = ap (λ w. get_or offsets w 0) e in omega arith)
      (λ (ne : row_at offsets k ≡ 0 → ⊥).
      let e : suc (row_at offsets k - 1) ≡ row_at offsets k = omega arith in
      let s = ap (λ w. get_or offsets w 0) e in
      omega (arith, (row_at-cut k).0 (row_at offsets k - 1) (omega arith)))
      (cases_eq (row_at offsets k) 0)

  pub row_at-ends : (k : ℕ) → row_at offsets k + 1 < length offsets → k < get_or offsets (row_at offsets k + 1) 0
  row_at-ends k below = let e : row_at offsets k + 1 ≡ suc (row_at offsets k) = omega arith in let s = ap (λ w. get_or offsets w 0) e in omega (arith, (row_at-cut k).1 (row_at offsets k) (omega arith) (omega arith))

  -- a row that begins at the place or before it, and that ends after it where it is not the last
  pub row_at-where : (u k : ℕ) → u < length offsets → ((v : ℕ) → v < u → get_or offsets (suc v) 0 ≤ k) → (u + 1 < length offsets → k < get_or offsets (u + 1) 0) → row_at offsets k ≡ u
  unfolding row_at
  row_at-where u k below ended after = count-front (length offsets - 1) u (λ v. leb (get_or offsets (suc v) 0) k) (omega arith)
      (λ v h. le-leb (get_or offsets (suc v) 0) k (ended v h))
      (λ v h l. lt-leb (get_or offsets (suc v) 0) k (let e : u + 1 ≡ suc u = omega arith in let s = ap (λ w. get_or offsets w 0) e in omega (arith, after (omega arith), rise (suc u) (suc v) (omega arith) (omega arith))))

module _ (pairs : List (ℕ × ℕ)) (offsets : List ℕ) (n : ℕ) (rows : AreOffsets pairs offsets n) where
  pub starts_rise : (v w : ℕ) → v ≤ w → w ≤ n → get_or offsets v 0 ≤ get_or offsets w 0
  starts_rise v zero h l = let e : v ≡ 0 = omega arith in let s = ap (λ k. get_or offsets k 0) e in omega arith
  starts_rise v (suc w) h l = ⊎_elim
      (λ (e : v ≡ suc w). let s = ap (λ k. get_or offsets k 0) e in omega arith)
      (λ (ne : v ≡ suc w → ⊥).
      let e : w + 1 ≡ suc w = omega arith in
      let s = ap (λ k. get_or offsets k 0) e in
      let step = (rows.rises w (omega arith)).0 in
      omega (arith, starts_rise v w (omega arith) (omega arith)))
      (cases_eq v (suc w))

  pub row_at-is : (u k : ℕ) → u < n → get_or offsets u 0 ≤ k → k < get_or offsets (u + 1) 0 → row_at offsets k ≡ u
  row_at-is u k below from to = let size = rows.size in row_at-between offsets (λ v w h l. starts_rise v w h (omega arith)) u k (omega arith) from to

  pub spelled : (targets : List ℕ) → AreInRange pairs n → AreTargets pairs targets → pairs_of offsets targets ≡ pairs
  spelled targets range are =
      let size = are.count in
      same_lists (pairs_of offsets targets) pairs (length-pairs_of offsets targets ∙ size)
      (λ k d l.
      let long = length-pairs_of offsets targets in
      let inside : k < length pairs = omega arith in
      let r = range k inside in
      let there = rows.found (first_of pairs k) k r.0 inside refl in
      get_or_default (pairs_of offsets targets) k d (0, 0) l ∙ pairs_of-at offsets targets k (omega arith)
      ∙ pair_same (row_at offsets k, get_or targets k 0) (get_or pairs k (0, 0)) (row_at-is (first_of pairs k) k r.0 there.0 there.1) (are.each k inside)
      ∙ get_or_default pairs k (0, 0) d inside)

-- what rows say of the pairs that they spell
pub seconds_of_rows : (offsets targets : List ℕ) → AreTargets (pairs_of offsets targets) targets
seconds_of_rows offsets targets = record {
  count = sym (length-pairs_of offsets targets);
  each = λ k l. let long = length-pairs_of offsets targets in sym (second_at offsets targets k (omega arith));
}

pub seconds_from : (offsets targets : List ℕ) (begin : ℕ) → drop begin targets ≡ map (λ (q : ℕ × ℕ). q.1) (drop begin (pairs_of offsets targets))
seconds_from offsets targets begin =
    let second : ℕ × ℕ → ℕ = λ q. q.1 in
    let pairs = pairs_of offsets targets in
    let size = length-pairs_of offsets targets in
    let behind = length-drop begin targets in
    let dropped = length-drop begin pairs in
    let mapped = length-map (drop begin pairs) second in
    same_lists (drop begin targets) (map second (drop begin pairs)) (omega arith)
    (λ k d l.
    get_or-drop begin targets k d ∙ get_or_default targets (begin + k) d 0 (omega arith)
    ∙ sym (get_or-map second (drop begin pairs) k (0, 0) d (omega arith) ∙ ap second (get_or-drop begin pairs k (0, 0) ∙ pairs_of-at offsets targets (begin + k) (omega arith))))

-- what holds of rows holds of the same rows where they are lent
pub of_lent : (P : List ℕ → List ℕ → Type 0) (offsets targets lent_starts lent_seconds : List ℕ) → lent_starts ≡ offsets → lent_seconds ≡ targets → P offsets targets → P lent_starts lent_seconds
of_lent P offsets targets lent_starts lent_seconds one two holds = subst (λ s. P s lent_seconds) (sym one) (subst (P offsets) (sym two) holds)
