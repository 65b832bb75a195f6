-- Rows as they grow, and rows that are closed.
use Rattle.std.proofs.Common.{◌≡◌, ℕ, zero, suc, ◌+◌, ◌-◌, ◌<◌, ◌≤◌, ◌↔◌, leb, refl, sym, ap, subst, ◌∙◌, arith, ⊎_elim, List, [], ◌∷◌, ◌++◌, get_or, length}
use Rattle.std.proofs.lemmas.Bool.{cases_eq, cases_lt, le-leb, lt-leb}
use Rattle.std.proofs.lemmas.List.{same_lists, get_or_default, length_push, get_or_append_left, get_or_at}
use Rattle.pit_model.specs.Graph.{first_of}
use Rattle.csr.specs.Rows.{row_at, pairs_of, IsCsr, IsGrowing}
use Rattle.csr.proofs.Offsets.{AreOffsets}
use Rattle.csr.proofs.Count.{count-front, count-le}
use Rattle.csr.proofs.Spelled.{length-pairs_of, pair_same, pairs_of-at, row_at-begins, row_at-between, row_at-cut, row_at-ends}

-- further rows begin at a place, after those that have begun
pub record BeginFrom (offsets : List ℕ) (place : ℕ) (more : List ℕ) : Type 0 where
  pub longer : length offsets ≤ length more
  pub kept : (v : ℕ) → v < length offsets → get_or more v 0 ≡ get_or offsets v 0
  pub begin : (v : ℕ) → length offsets ≤ v → v < length more → get_or more v 0 ≡ place

module _ (offsets : List ℕ) (places : ℕ) (begun : IsGrowing offsets places) where
  pub begun_some : 0 < length offsets
  begun_some = let size = begun.closed.count in omega arith

  pub begun_rise : (v w : ℕ) → v ≤ w → w < length offsets → get_or offsets v 0 ≤ get_or offsets w 0
  begun_rise v zero h l = let e : v ≡ 0 = omega arith in let s = ap (λ k. get_or offsets k 0) e in omega arith
  begun_rise v (suc w) h l = ⊎_elim
      (λ (e : v ≡ suc w). let s = ap (λ k. get_or offsets k 0) e in omega arith)
      (λ (ne : v ≡ suc w → ⊥).
      let e : w + 1 ≡ suc w = omega arith in
      let s = ap (λ k. get_or offsets k 0) e in
      omega (arith, begun_rise v w (omega arith) (omega arith), begun.closed.rising w (omega arith)))
      (cases_eq v (suc w))

  pub begun_inside : (v : ℕ) → v < length offsets → get_or offsets v 0 ≤ places
  begun_inside v h = omega (arith, begun_rise v (length offsets - 1) (omega arith) (omega arith), begun.within)

  -- a row that is begun at the place after the last changes no pair
  module _ (targets more : List ℕ) (size : length targets ≡ places) (are : BeginFrom offsets places more) where
    inside_more : (v : ℕ) → v < length more → get_or more v 0 ≤ places
    inside_more v h = ⊎_elim
        (λ (b : v < length offsets). omega (arith, are.kept v b, begun_inside v b))
        (λ (b : length offsets ≤ v). omega (arith, are.begin v b h))
        (cases_lt v (length offsets))

    pub begun_more : IsGrowing more places
    begun_more = record {
      closed = record {
        count = omega (arith, begun_some, are.longer);
        first = are.kept 0 begun_some ∙ begun.closed.first;
        rising = λ v h. ⊎_elim
            (λ (b : v + 1 < length offsets). omega (arith, are.kept v (omega arith), are.kept (v + 1) b, begun.closed.rising v (omega arith)))
            (λ (b : length offsets ≤ v + 1). omega (arith, inside_more v (omega arith), are.begin (v + 1) b (omega arith)))
            (cases_lt (v + 1) (length offsets));
        last = refl;
      };
      within = inside_more (length more - 1) (omega (arith, begun_some, are.longer));
    }

    row_kept : (k : ℕ) → k < places → row_at more k ≡ row_at offsets k
    unfolding row_at
    row_kept k below =
        let longer = are.longer in
        let some = begun_some in
        let r = row_at-cut offsets begun_rise k in
        let c = count-le (length offsets - 1) (λ v. leb (get_or offsets (suc v) 0) k) in
        count-front (length more - 1) (row_at offsets k) (λ v. leb (get_or more (suc v) 0) k) (omega arith)
        (λ v h. le-leb (get_or more (suc v) 0) k (omega (arith, r.0 v h, are.kept (suc v) (omega arith))))
        (λ v h l. lt-leb (get_or more (suc v) 0) k (⊎_elim
        (λ (b : suc v < length offsets). omega (arith, r.1 v h (omega arith), are.kept (suc v) b))
        (λ (b : length offsets ≤ suc v). omega (arith, are.begin (suc v) b (omega arith)))
        (cases_lt (suc v) (length offsets))))

    pub pairs_kept : pairs_of more targets ≡ pairs_of offsets targets
    pairs_kept =
        let long = length-pairs_of more targets in
        let short = length-pairs_of offsets targets in
        same_lists (pairs_of more targets) (pairs_of offsets targets) (omega arith)
        (λ k d l.
        get_or_default (pairs_of more targets) k d (0, 0) l ∙ pairs_of-at more targets k (omega arith)
        ∙ ap (λ r. (r, get_or targets k 0)) (row_kept k (omega arith))
        ∙ sym (get_or_default (pairs_of offsets targets) k d (0, 0) (omega arith) ∙ pairs_of-at offsets targets k (omega arith)))

  -- the open row has all places from its offset on
  row_open : (k : ℕ) → get_or offsets (length offsets - 1) 0 ≤ k → row_at offsets k ≡ length offsets - 1
  unfolding row_at
  row_open k behind = count-front (length offsets - 1) (length offsets - 1) (λ v. leb (get_or offsets (suc v) 0) k) (omega arith)
      (λ v h. le-leb (get_or offsets (suc v) 0) k (omega (arith, begun_rise (suc v) (length offsets - 1) (omega arith) (omega arith))))
      (λ v h l. absurd (omega arith))

  module _ (targets : List ℕ) (size : length targets ≡ places) where
    -- what is added goes to the open row
    pub pairs_push : (p : ℕ) → pairs_of offsets (targets ++ p ∷ []) ≡ pairs_of offsets targets ++ (length offsets - 1, p) ∷ []
    pairs_push p =
        let pushed = length_push targets p in
        let long = length-pairs_of offsets (targets ++ p ∷ []) in
        let short = length-pairs_of offsets targets in
        let also = length_push (pairs_of offsets targets) (length offsets - 1, p) in
        same_lists (pairs_of offsets (targets ++ p ∷ [])) (pairs_of offsets targets ++ (length offsets - 1, p) ∷ []) (omega arith)
        (λ k d l.
        get_or_default (pairs_of offsets (targets ++ p ∷ [])) k d (0, 0) l ∙ pairs_of-at offsets (targets ++ p ∷ []) k (omega arith) ∙ ⊎_elim
        (λ (b : k < length targets).
        ap (λ q. (row_at offsets k, q)) (get_or_append_left targets (p ∷ []) 0 k b)
        ∙ sym (get_or_append_left (pairs_of offsets targets) ((length offsets - 1, p) ∷ []) d k (omega arith) ∙ get_or_default (pairs_of offsets targets) k d (0, 0) (omega arith) ∙ pairs_of-at offsets targets k b))
        (λ (b : length targets ≤ k).
        pair_same (row_at offsets k, get_or (targets ++ p ∷ []) k 0) (length offsets - 1, p) (row_open k (omega (arith, begun.within))) (get_or_at targets p [] 0 k (omega arith))
        ∙ sym (get_or_at (pairs_of offsets targets) (length offsets - 1, p) [] d k (omega arith)))
        (cases_lt k (length targets)))

    -- where all arcs are of closed rows, the open one is empty
    pub closed_csr : ((k : ℕ) → k < length (pairs_of offsets targets) → first_of (pairs_of offsets targets) k < length offsets - 1) → IsCsr (length offsets - 1) places offsets
    closed_csr below =
        let long = length-pairs_of offsets targets in
        record {
          count = begun.closed.count;
          first = begun.closed.first;
          rising = begun.closed.rising;
          last = ⊎_elim
              (λ (less : get_or offsets (length offsets - 1) 0 < places).
              let k : ℕ = get_or offsets (length offsets - 1) 0 in
              let own = below k (omega arith) in
              let is = ap (λ (q : ℕ × ℕ). q.0) (pairs_of-at offsets targets k (omega arith)) in
              let is_open = row_open k (omega arith) in
              absurd (omega arith))
              (λ (more : places ≤ get_or offsets (length offsets - 1) 0). omega (arith, begun.within))
              (cases_lt (get_or offsets (length offsets - 1) 0) places);
        }

module _ (offsets : List ℕ) (n places : ℕ) (rows : IsCsr n places offsets) where
  -- rows that are closed grow no more
  pub csr_grows : IsGrowing offsets places
  csr_grows =
      let size = rows.count in
      let e : length offsets - 1 ≡ n = omega arith in
      let last = ap (λ v. get_or offsets v 0) e ∙ rows.last in
      record {
        closed = record {
          count = omega arith;
          first = rows.first;
          rising = λ v h. rows.rising v (omega arith);
          last = refl;
        };
        within = omega arith;
      }

  pub csr_rise : (v w : ℕ) → v ≤ w → w ≤ n → get_or offsets v 0 ≤ get_or offsets w 0
  csr_rise v w h l = let size = rows.count in begun_rise offsets places csr_grows v w h (omega arith)

  -- a place lies in one of the rows
  pub csr_row : (k : ℕ) → k < places → row_at offsets k < n
  csr_row k l =
      let size = rows.count in
      let first = rows.first in
      let last = rows.last in
      let cut = row_at-cut offsets (begun_rise offsets places csr_grows) k in
      ⊎_elim
      (λ (so : row_at offsets k < n). so)
      (λ (past : n ≤ row_at offsets k). absurd (⊎_elim
      (λ (none : n ≡ 0). let at = ap (λ i. get_or offsets i 0) none in omega arith)
      (λ (some : n ≡ 0 → ⊥).
      let e : suc (n - 1) ≡ n = omega arith in
      let low = cut.0 (n - 1) (omega arith) in
      let at = ap (λ i. get_or offsets i 0) e in
      omega arith)
      (cases_eq n 0)))
      (cases_lt (row_at offsets k) n)

-- the same rows, by the length of their offsets
pub csr_sized : (offsets : List ℕ) (n places count : ℕ) → IsCsr n places offsets → count ≡ places → IsCsr (length offsets - 1) count offsets
csr_sized offsets n places count rows same =
    let size = rows.count in
    let e : length offsets - 1 ≡ n = omega arith in
    record {
      count = omega arith;
      first = rows.first;
      rising = λ v h. rows.rising v (omega arith);
      last = ap (λ v. get_or offsets v 0) e ∙ rows.last ∙ sym same;
    }

-- the offsets of rows say where the arcs of each block stand
pub csr_offsets : (offsets targets : List ℕ) (n : ℕ) → IsCsr n (length targets) offsets → AreOffsets (pairs_of offsets targets) offsets n
csr_offsets offsets targets n rows =
    let size = rows.count in
    let zero_begins = rows.first in
    let long = length-pairs_of offsets targets in
    let begun = csr_grows offsets n (length targets) rows in
    let rise = begun_rise offsets (length targets) begun in
    let first = λ (k : ℕ) (h : k < length targets). ap (λ (q : ℕ × ℕ). q.0) (pairs_of-at offsets targets k h) in
    record {
      size = size;
      rises = λ v h. (rows.rising v h, omega (arith, begun_inside offsets (length targets) begun (v + 1) (omega arith)));
      owns = λ v k h from to. first k (omega (arith, begun_inside offsets (length targets) begun (v + 1) (omega arith))) ∙ row_at-between offsets rise v k (omega arith) from to;
      found = λ v k h l e.
          let at : row_at offsets k ≡ v = sym (first k (omega arith)) ∙ e in
          let begins = row_at-begins offsets rise k (omega arith) (omega arith) in
          let ends = row_at-ends offsets rise k (omega arith) in
          (subst (λ w. get_or offsets w 0 ≤ k) at begins, subst (λ w. k < get_or offsets (w + 1) 0) at ends);
    }

-- offsets that say which arcs are a block's
pub own_offsets : (pairs : List (ℕ × ℕ)) (offsets : List ℕ) (n count : ℕ) → n ≡ count → IsCsr n (length pairs) offsets
    → ((u k : ℕ) → u < n → k < length pairs → (first_of pairs k ≡ u) ↔ ((get_or offsets u 0 ≤ k) × (k < get_or offsets (u + 1) 0)))
    → AreOffsets pairs offsets count
own_offsets pairs offsets n count same rows own =
    let last = rows.last in
    let rise = λ (v : ℕ) (h : v < n). csr_rise offsets n (length pairs) rows (v + 1) n (omega arith) (omega arith) in
    record {
      size = rows.count ∙ ap (λ m. m + 1) same;
      rises = λ v h. (rows.rising v (omega arith), omega (arith, rise v (omega arith)));
      owns = λ v k h from to. (own v k (omega arith) (omega (arith, rise v (omega arith)))).1 (from, to);
      found = λ v k h l e. (own v k (omega arith) l).0 e;
    }
