-- What a search for a byte answers, as the place of the first such byte.
use Rattle.std.proofs.Common.{◌≡◌, ℕ, ◌==◌, Bool, true, false, List, length, Option, None, Some, ltb, refl, sym, arith, tests, rules}
use Rattle.std.specs.Prelude.{position}
use Rattle.std.specs.List.{position_or_len}
use Rattle.std.proofs.lemmas.List.Sums.{position_or_len_is}
use Rattle.memchr.specs.Find.{IsFirstByte, is_byte}

not_true : (v : Bool) → (v ≡ true → ⊥) → v ≡ false
not_true true never = absurd (never refl)
not_true false never = refl

pub first_place : (b : ℕ) (text : List ℕ) (r : Option ℕ) → IsFirstByte (is_byte b) text r → r ≡ position (λ x. x == b) text
first_place b text None h =
    let e : position_or_len (is_byte b) text ≡ length text = position_or_len_is (is_byte b) text (length text) 0 (omega arith) (λ k lt. not_true _ (h k (omega arith) lt)) (λ lt. absurd (omega (arith, lt))) in
    let test : ltb (length text) (length text) ≡ false = search (tests, rules) in
    sym (rw (e, test) refl)
first_place b text (Some k) h =
    let high = h.0.high in
    let e : position_or_len (is_byte b) text ≡ k = position_or_len_is (is_byte b) text k 0 (omega (arith, high)) (λ j lt. not_true _ (h.0.before j (omega arith) lt)) (λ lt. h.1) in
    let test : ltb k (length text) ≡ true = search (tests, rules) in
    sym (rw (e, test) refl)
