-- One pair more of those that were seen.
use Rattle.std.proofs.Common.{◌≡◌, inl, inr, ℕ, ◌+◌, ◌<◌, ◌≤◌, List, get_or, length, set, sym, ap, ◌∙◌, arith, refl, ⊎_elim}
use Rattle.std.proofs.lemmas.Bool.{cases_eq, cases_lt}
use Rattle.std.proofs.lemmas.List.{get_or-set_same, get_or-set_other}
use Rattle.pit_model.specs.Graph.{first_of, second_of, AreInRange}
use Rattle.csr.specs.Rows.{IsCsr, pairs_of}
use Rattle.csr.proofs.Offsets.{AreOffsets}
use Rattle.csr.proofs.Spelled.{length-pairs_of, pair_same, starts_rise}
use Rattle.arrays.specs.Named.{AreNamed, IsRepeated}
use Rattle.arrays.specs.Refused.{IsNamedTwice}
use Rattle.arrays.proofs.Encoding.{ends_within, one_row, row_exists, spell}

-- a pair before one of a row is of its block or of one before
pub sooner_first : (pairs : List (ℕ × ℕ)) (starts : List ℕ) (n u i k : ℕ) → AreInRange pairs n → AreOffsets pairs starts n → u < n → k < get_or starts (u + 1) 0 → i < k → first_of pairs i ≤ u
sooner_first pairs starts n u i k range rows below to less =
    let high = (rows.rises u below).1 in
    let own = (range i (omega arith)).0 in
    ⊎_elim
    (λ (behind : u < first_of pairs i).
    let here = (rows.found (first_of pairs i) i own (omega arith) refl).0 in
    absurd (omega (arith, starts_rise pairs starts n rows (u + 1) (first_of pairs i) (omega arith) (omega arith))))
    (λ (so : first_of pairs i ≤ u). so)
    (cases_lt u (first_of pairs i))

module _ (pairs : List (ℕ × ℕ)) (named : List ℕ) (k u p : ℕ) (sooner : (i : ℕ) → i < k → first_of pairs i ≤ u) (first : first_of pairs k ≡ u) (second : second_of pairs k ≡ p)
    (is : AreNamed pairs named k) where
  -- the block knows that this row named it: the pair stands before
  pub named_twice : k < length pairs → get_or named p 0 ≡ u + 1 → IsRepeated pairs k
  named_twice inside same = ⊎_elim
      (λ (none : get_or named p 0 ≡ 0). absurd (omega arith))
      (λ (some : (i : ℕ) × (i < k) × (second_of pairs i ≡ p) × (first_of pairs i + 1 ≡ get_or named p 0)).
      let at = some.3 in
      (some.0, some.1, inside, pair_same (get_or pairs some.0 (0, 0)) (get_or pairs k (0, 0)) (let z : first_of pairs some.0 ≡ first_of pairs k = omega arith in z) (some.2 ∙ sym second)))
      (is.by p)

  pub named_more : p < length named → (get_or named p 0 ≡ u + 1 → ⊥) → AreNamed pairs (set named p (u + 1)) (k + 1)
  named_more below other =
      let here : get_or (set named p (u + 1)) p 0 ≡ u + 1 = get_or-set_same named p (u + 1) 0 below in
      record {
        most = λ i l. ⊎_elim
            (λ (e : second_of pairs i ≡ p).
            let at = ap (λ q. get_or (set named p (u + 1)) q 0) e in
            ⊎_elim
            (λ (last : i ≡ k). let same = ap (first_of pairs) last in omega arith)
            (λ (ne : i ≡ k → ⊥). omega (arith, sooner i (omega arith)))
            (cases_eq i k))
            (λ (ne : second_of pairs i ≡ p → ⊥).
            let less : i < k = ⊎_elim
            (λ (last : i ≡ k). absurd (ne (ap (second_of pairs) last ∙ second)))
            (λ (d : i ≡ k → ⊥). let z : i < k = omega arith in z)
            (cases_eq i k) in
            omega (arith, get_or-set_other named p (second_of pairs i) (u + 1) 0 ne, is.most i less))
            (cases_eq (second_of pairs i) p);
        by = λ q. ⊎_elim
            (λ (e : q ≡ p). inr (k, omega arith, second ∙ sym e, ap (λ x. x + 1) first ∙ sym (ap (λ x. get_or (set named p (u + 1)) x 0) e ∙ here)))
            (λ (ne : q ≡ p → ⊥).
            let kept = get_or-set_other named p q (u + 1) 0 ne in
            ⊎_elim
            (λ (none : get_or named q 0 ≡ 0). inl (kept ∙ none))
            (λ (some : (i : ℕ) × (i < k) × (second_of pairs i ≡ q) × (first_of pairs i + 1 ≡ get_or named q 0)). inr (some.0, omega (arith, some.1), some.2, some.3 ∙ sym kept))
            (is.by q))
            (cases_eq q p);
        apart = λ i j l m same. ⊎_elim
            (λ (last : j ≡ k).
            let whole = same ∙ ap (λ x. get_or pairs x (0, 0)) last in
            let one : second_of pairs i ≡ p = ap (λ (x : ℕ × ℕ). x.1) whole ∙ second in
            let two : first_of pairs i ≡ u = ap (λ (x : ℕ × ℕ). x.0) whole ∙ first in
            let low = is.most i (omega arith) in
            let at = ap (λ x. get_or named x 0) one in
            ⊎_elim
            (λ (none : get_or named p 0 ≡ 0). omega arith)
            (λ (some : (h : ℕ) × (h < k) × (second_of pairs h ≡ p) × (first_of pairs h + 1 ≡ get_or named p 0)).
            let high = sooner some.0 some.1 in
            let by = some.3 in
            other (omega arith))
            (is.by p))
            (λ (ne : j ≡ k → ⊥). is.apart i j l (omega arith) same)
            (cases_eq j k);
      }

-- where a row names a block again, its pair stands before
pub twice_repeats : (n : ℕ) (starts needs : List ℕ) → IsCsr n (length needs) starts → (k : ℕ) → IsNamedTwice starts needs k → IsRepeated (pairs_of starts needs) k
twice_repeats n starts needs rows k twice =
    let pairs = pairs_of starts needs in
    let encoded = spell n starts needs rows in
    let long = length-pairs_of starts needs in
    let exists = row_exists n (length needs) starts rows twice.block k twice.here in
    let end = ends_within n (length needs) starts rows (twice.block + 1) (omega arith) in
    let high = twice.here.1 in
    let sooner = twice.sooner in
    let inside : k < length needs = omega arith in
    let earlier : twice.before < length needs = omega arith in
    let here = one_row n (length needs) starts rows (first_of pairs k) twice.block k (encoded.block k inside) twice.here in
    let there = one_row n (length needs) starts rows (first_of pairs twice.before) twice.block twice.before (encoded.block twice.before earlier) twice.there in (
      twice.before,
      sooner,
      omega arith,
      pair_same (get_or pairs twice.before (0, 0)) (get_or pairs k (0, 0)) (there ∙ sym here) (encoded.needed twice.before earlier ∙ twice.same ∙ sym (encoded.needed k inside)),
    )
