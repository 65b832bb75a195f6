-- What is printed of a number with decimals reads back as that number.
use Rattle.std.proofs.Common.{◌≡◌, ℕ, zero, suc, ◌+◌, ◌-◌, ◌*◌, ◌/◌, ◌%◌, ◌^◌, ◌<◌, ◌≤◌, ◌&&◌, Bool, true, false, cond, eqb, leb, ltb, List, [], ◌∷◌, ◌++◌, length, get_or, take, drop, Option, Some, None, refl, sym, ap, subst, ◌∙◌, ⊎_elim, arith, append_assoc}
use Rattle.std.specs.Prelude.{ℤ, pos, negsuc, neg_ℤ, int_lt, unsigned_abs, slice_index, codes, decimal, option_and_then}
use Rattle.std.specs.List.{All, position_or_len}
use Rattle.std.specs.Option.{option_map}
use Rattle.std.specs.Str.{all_ascii_digits}
use Rattle.std.specs.Str.Parse.{digits_value}
use Rattle.std.proofs.Math.Nat.{div-le_self}
use Rattle.std.proofs.Math.Seq.{take-append_seam, drop-append-add, get_or-append_seam}
use Rattle.std.proofs.lemmas.Bool.{lt-ltb, and_from}
use Rattle.std.proofs.lemmas.Bool.Decides.{eqb_tells}
use Rattle.std.proofs.lemmas.Int.{ints}
use Rattle.std.proofs.lemmas.Int.Digits.{digits_value_push}
use Rattle.std.proofs.lemmas.List.{append-nil, get_or_append_left, length-append, length_push}
use Rattle.std.proofs.lemmas.List.Elements.{All-append, All-cons, All-nil}
use Rattle.std.proofs.lemmas.List.Sums.{position_or_len_is}
use Rattle.std.proofs.lemmas.Nat.{div-mul-add}
use Rattle.minelib_reader.specs.Number.{cut_at, decimal_of, digits_of, millionths_of, millionths_parts, parts_at, point}
use Rattle.minelib_reader.proofs.Numbers.{pow_ten}
use Rattle.pit_model.specs.PitText.{last_digits, sign_text, with_decimals, with_six_decimals}
use Rattle.report.specs.PrintedNumbers.{NumbersReadBack, units_of, units_parts}
use Rattle.report.proofs.PlainLines.{IsNumeral, IsPlainField, IsWord, digit_byte, digits-append, digits_read, numeral, one_digit, push_digit, unequal, word_field}

-- the quotient by one power of ten more is that of the tenth
ten_times : (n k : ℕ) → n / 10 ^ suc k ≡ n / 10 / 10 ^ k
ten_times n k =
    let p : ℕ = 10 ^ k in
    let some : 0 < p = let least = pow_ten 0 k (omega arith) in omega (arith, least) in
    let power : 10 ^ suc k ≡ p * 10 = grind arith in
    let q : ℕ = n / 10 / p in
    let r : ℕ = 10 * (n / 10 % p) + n % 10 in
    let whole : q * (p * 10) + r ≡ n = grind arith in
    ap (λ m. n / m) power ∙ sym (ap (λ m. m / (p * 10)) whole) ∙ div-mul-add q (p * 10) r (grind arith)

-- the whole part and k decimals together are a numeral of the number
all_digits : (k n : ℕ) → n < 10 ^ 64 → IsNumeral n (decimal (n / 10 ^ k) ++ last_digits k n)
all_digits zero n fits =
    let same : n / 10 ^ 0 ≡ n = omega arith in
    subst (IsNumeral n) (sym (append-nil (decimal (n / 10 ^ 0)) ∙ ap decimal same)) (numeral n fits)
all_digits (suc k) n fits =
    let last : List ℕ = (48 + n % 10) ∷ [] in
    let quotient = ten_times n k in
    let is = sym (append_assoc (decimal (n / 10 ^ suc k)) (last_digits k (n / 10)) last) ∙ ap (λ m. (decimal m ++ last_digits k (n / 10)) ++ last) quotient in
    subst (IsNumeral n) (sym is) (push_digit n (decimal (n / 10 / 10 ^ k) ++ last_digits k (n / 10)) (all_digits k (n / 10) (omega arith)))

-- the decimals are digits, as many as are asked for, and write the remainder
pub record AreDecimals (k n : ℕ) : Type 0 where
  pub digits : all_ascii_digits (last_digits k n) ≡ true
  pub many : length (last_digits k n) ≡ k
  pub word : IsWord (last_digits k n)
  pub value : digits_value 10 (last_digits k n) + n / 10 ^ k * 10 ^ k ≡ n

pub are_decimals : (k n : ℕ) → AreDecimals k n
are_decimals zero n = record { digits = refl; many = refl; word = All-nil (λ b. 48 ≤ b); value = omega arith }
are_decimals (suc k) n =
    let before = are_decimals k (n / 10) in
    let last = one_digit (n % 10) (omega arith) in
    let quotient = ten_times n k in
    let pushed : digits_value 10 (last_digits (suc k) n) ≡ digits_value 10 (last_digits k (n / 10)) * 10 + n % 10 =
    digits_value_push 10 (last_digits k (n / 10)) (48 + n % 10) ∙ ap (λ d. digits_value 10 (last_digits k (n / 10)) * 10 + d) (digit_byte (n % 10) (omega arith)) in
    let power : 10 ^ suc k ≡ 10 ^ k * 10 = grind arith in
    let back : n / 10 ^ suc k * 10 ^ suc k ≡ n / 10 / 10 ^ k * 10 ^ k * 10 =
    ap (λ m. m * 10 ^ suc k) quotient ∙ ap (λ m. n / 10 / 10 ^ k * m) power ∙ grind arith in
    record {
      digits = digits-append (last_digits k (n / 10)) ((48 + n % 10) ∷ []) before.digits last.digits;
      many = length_push (last_digits k (n / 10)) (48 + n % 10) ∙ omega (arith, before.many);
      word = All-append (λ b. 48 ≤ b) (last_digits k (n / 10)) ((48 + n % 10) ∷ []) before.word last.word;
      value = omega (arith, before.value, pushed, back);
    }

-- ---- the point

not_point : (b : ℕ) → 48 ≤ b → eqb b point ≡ false
not_point b low = unequal b point (λ e. omega arith)

cut_there : (whole part : List ℕ) → IsWord whole → cut_at point (whole ++ point ∷ part) ≡ Some (whole, part)
unfolding cut_at
cut_there whole part word =
    let text : List ℕ = whole ++ point ∷ part in
    let many : length whole < length text = omega (arith, length-append whole (point ∷ part)) in
    let place : position_or_len (λ x. eqb x point) text ≡ length whole =
    position_or_len_is (λ x. eqb x point) text (length whole) 0 (omega arith)
    (λ k l. ap (λ b. eqb b point) (get_or_append_left whole (point ∷ part) 0 k l) ∙ not_point (get_or whole k 0) (word k 0 l))
    (λ l. ap (λ b. eqb b point) (get_or-append_seam whole point part 0)) in
    let parts : parts_at text (length whole) ≡ (whole, part) =
    ap (λ (front : List ℕ). (front, drop (length whole + 1) text)) (take-append_seam whole (point ∷ part))
    ∙ ap (λ (back : List ℕ). (whole, back)) (drop-append-add whole (point ∷ part) 1) in
    ap (λ at. option_map (parts_at text) (cond (ltb at (length text)) (Some at) None)) place
    ∙ ap (λ v. option_map (parts_at text) (cond v (Some (length whole)) None)) (lt-ltb (length whole) (length text) many)
    ∙ ap (λ (p : List ℕ × List ℕ). Some p) parts

-- ---- the size, and the sign

same_count : (a b : ℕ) → a ≡ b → eqb a b ≡ true
same_count a b e = ⊎_elim (λ p. p.0) (λ p. absurd (p.1 e)) (eqb_tells a b)

abbrev digits_text : ℕ → ℕ → List ℕ
digits_text k n = decimal (n / 10 ^ k) ++ point ∷ last_digits k n

size_read : (k n : ℕ) → n < 10 ^ 64 → units_parts k (cut_at point (digits_text k n)) ≡ Some n
size_read k n fits =
    let whole = numeral (n / 10 ^ k) (let less = div-le_self n (10 ^ k) in omega arith) in
    let decimals = are_decimals k n in
    let all = all_digits k n fits in
    let ds : List ℕ = decimal (n / 10 ^ k) in
    let ls : List ℕ = last_digits k n in
    let test : ((ltb 0 (length ds) && eqb (length ls) k) && all_ascii_digits (ds ++ ls)) ≡ true =
    and_from (ltb 0 (length ds) && eqb (length ls) k) (all_ascii_digits (ds ++ ls))
    (and_from (ltb 0 (length ds)) (eqb (length ls) k) (lt-ltb 0 (length ds) whole.some) (same_count (length ls) k decimals.many)) all.digits in
    ap (units_parts k) (cut_there ds ls whole.word)
    ∙ ap (λ (v : Bool). cond v (Some (digits_value 10 (ds ++ ls))) None) test ∙ ap (λ m. Some m) all.value

-- a numeral begins with a byte of its own, neither a sign nor nothing
begins : (ds rest : List ℕ) → IsWord ds → 0 < length ds → 48 ≤ slice_index (ds ++ rest) 0
begins [] rest word some = absurd (omega arith)
begins (d ∷ ds) rest word some = word 0 0 (omega arith)

no_sign : (b sign : ℕ) → 48 ≤ b → sign < 48 → eqb b sign ≡ false
no_sign b sign low less = unequal b sign (λ e. omega arith)

positive : (n : ℕ) → int_lt (pos n) (pos 0) ≡ false
positive n = grind (arith, ints)

unsigned_read : (k n : ℕ) → n < 10 ^ 64 → units_of k (digits_text k n) ≡ Some (pos n)
unfolding units_of
unsigned_read k n fits =
    let whole = numeral (n / 10 ^ k) (let less = div-le_self n (10 ^ k) in omega arith) in
    let text = digits_text k n in
    let plain = no_sign (slice_index text 0) 45 (begins (decimal (n / 10 ^ k)) (point ∷ last_digits k n) whole.word whole.some) (omega arith) in
    ap (λ (v : Bool). cond v (option_map (λ m. neg_ℤ (pos m)) (units_parts k (cut_at point (drop 1 text)))) (option_map (λ m. pos m) (units_parts k (cut_at point text)))) plain
    ∙ ap (λ (o : Option ℕ). option_map (λ m. pos m) o) (size_read k n fits)

signed_read : (k n : ℕ) → n < 10 ^ 64 → units_of k (45 ∷ digits_text k n) ≡ Some (neg_ℤ (pos n))
unfolding units_of
signed_read k n fits = ap (λ (o : Option ℕ). option_map (λ m. neg_ℤ (pos m)) o) (size_read k n fits)

text_is : (k : ℕ) (x : ℤ) → with_decimals k x ≡ sign_text x ++ digits_text k (unsigned_abs x)
unfolding with_decimals
text_is k x = simp append_assoc

pub units : (k : ℕ) (x : ℤ) → unsigned_abs x < 10 ^ 64 → units_of k (with_decimals k x) ≡ Some x
units k (pos n) fits =
    ap (units_of k) (text_is k (pos n)) ∙ ap (λ (v : Bool). units_of k (cond v (codes "-") [] ++ digits_text k n)) (positive n) ∙ unsigned_read k n fits
units k (negsuc n) fits = ap (units_of k) (text_is k (negsuc n)) ∙ signed_read k (suc n) fits

-- ---- as the readers of models read it

millionths_read : (n : ℕ) → n < 10 ^ 18 → millionths_of (digits_text 6 n) ≡ Some n
unfolding millionths_of digits_of
millionths_read n small =
    let whole = numeral (n / 10 ^ 6) (omega arith) in
    let decimals = are_decimals 6 n in
    let ds : List ℕ = decimal (n / 10 ^ 6) in
    let ls : List ℕ = last_digits 6 n in
    let test : ((ltb 0 (length ls) && leb (length ls) 6) && all_ascii_digits ls) ≡ true =
    and_from (ltb 0 (length ls) && leb (length ls) 6) (all_ascii_digits ls) (ap (λ m. ltb 0 m && leb m 6) decimals.many) decimals.digits in
    let part : digits_of 6 ls ≡ Some (digits_value 10 ls) = ap (λ (v : Bool). cond v (Some (digits_value 10 ls)) None) test in
    let front = digits_read 12 (n / 10 ^ 6) (omega arith) (omega arith) (omega arith) in
    let sum : n / 10 ^ 6 * 1000000 + digits_value 10 ls * 10 ^ (6 - length ls) ≡ n =
    ap (λ m. n / 10 ^ 6 * 1000000 + digits_value 10 ls * 10 ^ (6 - m)) decimals.many ∙ omega (arith, decimals.value) in
    ap (millionths_parts (digits_text 6 n)) (cut_there ds ls whole.word)
    ∙ ap (λ (o : Option ℕ). option_and_then (λ w. option_and_then (λ p. Some (w * 1000000 + p * 10 ^ (6 - length ls))) (digits_of 6 ls)) o) front
    ∙ ap (λ (o : Option ℕ). option_and_then (λ p. Some (n / 10 ^ 6 * 1000000 + p * 10 ^ (6 - length ls))) o) part
    ∙ ap (λ m. Some m) sum

unsigned_decimal : (n : ℕ) → n < 10 ^ 18 → decimal_of (digits_text 6 n) ≡ Some (pos n)
unfolding decimal_of
unsigned_decimal n small =
    let whole = numeral (n / 10 ^ 6) (omega arith) in
    let text = digits_text 6 n in
    let first = begins (decimal (n / 10 ^ 6)) (point ∷ last_digits 6 n) whole.word whole.some in
    let plus = λ (v : Bool). cond v (option_and_then (λ m. Some (pos m)) (millionths_of (drop 1 text))) (option_and_then (λ m. Some (pos m)) (millionths_of text)) in
    ap (λ (v : Bool). cond v (option_and_then (λ m. Some (neg_ℤ (pos m))) (millionths_of (drop 1 text))) (plus (eqb (slice_index text 0) 43))) (no_sign (slice_index text 0) 45 first (omega arith))
    ∙ ap plus (no_sign (slice_index text 0) 43 first (omega arith))
    ∙ ap (λ (o : Option ℕ). option_and_then (λ m. Some (pos m)) o) (millionths_read n small)

signed_decimal : (n : ℕ) → n < 10 ^ 18 → decimal_of (45 ∷ digits_text 6 n) ≡ Some (neg_ℤ (pos n))
unfolding decimal_of
signed_decimal n small = ap (λ (o : Option ℕ). option_and_then (λ m. Some (neg_ℤ (pos m))) o) (millionths_read n small)

as_decimal : (x : ℤ) → unsigned_abs x < 10 ^ 18 → decimal_of (with_six_decimals x) ≡ Some x
as_decimal (pos n) small =
    ap decimal_of (text_is 6 (pos n)) ∙ ap (λ (v : Bool). decimal_of (cond v (codes "-") [] ++ digits_text 6 n)) (positive n) ∙ unsigned_decimal n small
as_decimal (negsuc n) small = ap decimal_of (text_is 6 (negsuc n)) ∙ signed_decimal (suc n) small

-- ---- a field of its own

unsigned_field : (k n : ℕ) → n < 10 ^ 64 → IsPlainField (digits_text k n)
unsigned_field k n fits =
    let whole = numeral (n / 10 ^ k) (let less = div-le_self n (10 ^ k) in omega arith) in
    All-append (λ b. 33 ≤ b) (decimal (n / 10 ^ k)) (point ∷ last_digits k n) (word_field (decimal (n / 10 ^ k)) whole.word)
    (All-cons (λ b. 33 ≤ b) point (last_digits k n) (omega arith) (word_field (last_digits k n) (are_decimals k n).word))

some_text : (ds rest : List ℕ) → 0 < length (ds ++ point ∷ rest)
some_text ds rest = omega (arith, length-append ds (point ∷ rest))

-- it has bytes, none of which is a blank
pub record IsOneField (text : List ℕ) : Type 0 where
  pub plain : IsPlainField text
  pub some : 0 < length text

unsigned_one : (k n : ℕ) → n < 10 ^ 64 → IsOneField (digits_text k n)
unsigned_one k n fits = record { plain = unsigned_field k n fits; some = some_text (decimal (n / 10 ^ k)) (last_digits k n) }

pub one_number : (k : ℕ) (x : ℤ) → unsigned_abs x < 10 ^ 64 → IsOneField (with_decimals k x)
one_number k (pos n) fits =
    subst IsOneField (sym (text_is k (pos n) ∙ ap (λ (v : Bool). cond v (codes "-") [] ++ digits_text k n) (positive n))) (unsigned_one k n fits)
one_number k (negsuc n) fits =
    let digits = unsigned_one k (suc n) fits in
    subst IsOneField (sym (text_is k (negsuc n)))
    (record { plain = All-cons (λ b. 33 ≤ b) 45 (digits_text k (suc n)) (omega arith) digits.plain; some = omega arith })

pub numbers_read_back : NumbersReadBack
numbers_read_back = record { units = units; decimal = as_decimal }
