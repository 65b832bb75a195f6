-- The digits at the front of a text are its first field where a blank or nothing follows.
use Rattle.std.proofs.Common.{◌≡◌, ℕ, zero, suc, ◌+◌, ◌<◌, ◌≤◌, Bool, true, false, cond, not, ◌||◌, eqb, leb, List, [], ◌∷◌, length, take, drop, get_or, Some, refl, sym, ap, ◌∙◌, ◌⊎◌, inl, inr, arith, length-take}
use Rattle.std.specs.List.{position_or_len, prefix_len}
use Rattle.std.specs.Str.{all_ascii_digits}
use Rattle.std.specs.Str.Parse.{digits_value}
use Rattle.std.specs.Char.{is_ascii_digit}
use Rattle.std.proofs.lemmas.Bool.{leb-true, eqb-true, and_parts}
use Rattle.minelib_reader.specs.Number.{digits_of, whole_of}
use Rattle.minelib_reader.specs.Text.{is_blank, fields_of}
use Rattle.minelib_reader.proofs.TextLemmas.{some_field}

not_blank_by : (c : ℕ) (v w : Bool) → eqb c 32 ≡ v → eqb c 9 ≡ w → 48 ≤ c → (v || w) ≡ false
not_blank_by c true w e f le = absurd (let same = eqb-true c 32 e in omega (arith, same, le))
not_blank_by c false true e f le = absurd (let same = eqb-true c 9 f in omega (arith, same, le))
not_blank_by c false false e f le = refl

not_blank : (c : ℕ) → is_ascii_digit c ≡ true → is_blank c ≡ false
not_blank c e = let low = and_parts (leb 48 c) (leb c 57) e in not_blank_by c (eqb c 32) (eqb c 9) refl refl (leb-true 48 c low.0)

-- no digit is a blank, so the field of digits ends where a blank or nothing follows
ends : (text : List ℕ) (len : ℕ) → len ≤ length text → all_ascii_digits (take len text) ≡ true → (len ≡ length text) ⊎ (is_blank (get_or text len 0) ≡ true) → len ≡ position_or_len is_blank text
ends [] len le all end = omega (arith, le)
ends (c ∷ cs) zero le all (inl e) = absurd (omega (arith, e))
ends (c ∷ cs) zero le all (inr e) = sym (ap (λ (v : Bool). cond (not v) (1 + position_or_len is_blank cs) 0) e)
ends (c ∷ cs) (suc k) le all end =
    let parts = and_parts (is_ascii_digit c) (all_ascii_digits (take k cs)) all in
    let e : position_or_len is_blank (c ∷ cs) ≡ 1 + position_or_len is_blank cs = ap (λ (v : Bool). cond (not v) (1 + position_or_len is_blank cs) 0) (not_blank c parts.0) in
    let behind = ends cs k (omega (arith, le)) parts.1 (tail end) in
    omega (arith, e, behind)
  where
    tail : (suc k ≡ length (c ∷ cs)) ⊎ (is_blank (get_or (c ∷ cs) (suc k) 0) ≡ true) → (k ≡ length cs) ⊎ (is_blank (get_or cs k 0) ≡ true)
    tail (inl e) = inl (omega (arith, e))
    tail (inr e) = inr e

whole_is : (ds : List ℕ) → 0 < length ds → length ds ≤ 10 → all_ascii_digits ds ≡ true → whole_of ds ≡ Some (digits_value 10 ds)
unfolding digits_of
whole_is ds some few all = grind (arith, all)

-- the first field is the digits at the front
whole_first : (text rest : List ℕ) (skipped len value : ℕ) → skipped ≡ prefix_len is_blank text → rest ≡ drop skipped text → len ≤ length rest → all_ascii_digits (take len rest) ≡ true → value ≡ digits_value 10 (take len rest)
    → 0 < len → len ≤ 10 → (len ≡ length rest) ⊎ (is_blank (get_or rest len 0) ≡ true) → (fields_of text ≡ take len rest ∷ fields_of (drop len rest)) × (Some value ≡ whole_of (take len rest))
whole_first text rest skipped len value e r inside all v some few end =
    let size = length-take len rest in (
      some_field text rest skipped len e r (ends rest len inside all end) some,
      sym (whole_is (take len rest) (omega (arith, size, inside, some)) (omega (arith, size, inside, few)) all ∙ ap (λ (n : ℕ). Some n) (sym v)),
    )

-- a digit at the front is no blank
no_blank_first : (rest : List ℕ) (len : ℕ) → len ≤ length rest → all_ascii_digits (take len rest) ≡ true → 0 < len → 0 ≡ prefix_len is_blank rest
no_blank_first [] len inside all some = absurd (omega (arith, inside, some))
no_blank_first (c ∷ cs) zero inside all some = absurd (omega (arith, some))
no_blank_first (c ∷ cs) (suc k) inside all some =
    let parts = and_parts (is_ascii_digit c) (all_ascii_digits (take k cs)) all in
    sym (ap (λ (v : Bool). cond v (1 + prefix_len is_blank cs) 0) (not_blank c parts.0))

-- the same of a text that begins with them
pub whole_at_front : (rest : List ℕ) (len value : ℕ) → len ≤ length rest → all_ascii_digits (take len rest) ≡ true → value ≡ digits_value 10 (take len rest)
    → 0 < len → len ≤ 10 → (len ≡ length rest) ⊎ (is_blank (get_or rest len 0) ≡ true) → (fields_of rest ≡ take len rest ∷ fields_of (drop len rest)) × (Some value ≡ whole_of (take len rest))
whole_at_front rest len value inside all v some few end = whole_first rest rest 0 len value (no_blank_first rest len inside all some) refl inside all v some few end
