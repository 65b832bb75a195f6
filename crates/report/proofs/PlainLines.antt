-- A text of plain lines has exactly these lines, and a line of words with one space between them exactly these fields;
-- and the digits that `decimal` writes are read as the number.
use Rattle.std.proofs.Common.{◌≡◌, ℕ, ◌+◌, ◌-◌, ◌/◌, ◌%◌, ◌^◌, ◌<◌, ◌≤◌, ◌&&◌, Bool, true, false, cond, eqb, leb, ltb, List, [], ◌∷◌, ◌++◌, length, get_or, take, filter, map, Some, None, refl, sym, ap, ◌∙◌, arith, append_assoc, ⊎_elim}
use Rattle.std.specs.Prelude.{◌||◌, decimal}
use Rattle.std.specs.List.{All, flat_map, slice_split}
use Rattle.std.specs.Char.{is_ascii_digit}
use Rattle.std.specs.Str.{all_ascii_digits}
use Rattle.std.specs.Str.Lines.{lines, lines_of_parts, strip_carriage_return}
use Rattle.std.proofs.lemmas.Bool.{le-leb, lt-ltb, and_from, and_parts}
use Rattle.std.proofs.lemmas.Bool.Decides.{eqb_tells}
use Rattle.std.proofs.lemmas.List.{length_push}
use Rattle.std.proofs.lemmas.List.Elements.{All-append, All-cons, All-nil}
use Rattle.std.proofs.lemmas.List.Splits.{slice_split_none, slice_split_at}
use Rattle.std.proofs.lemmas.Fmt.{decimal_by_steps_wide, length-decimal-le_wide}
use Rattle.minelib_reader.specs.Number.{digits_of}
use Rattle.std.specs.Char.{digit_value}
use Rattle.std.specs.Str.Parse.{digits_value}
use Rattle.std.proofs.lemmas.Str.{digit_value_digit}
use Rattle.std.proofs.lemmas.Int.Digits.{digits_value_push}
use Rattle.pit_model.specs.PitText.{line_of}
use Rattle.minelib_reader.specs.Text.{is_blank, is_field, fields_of}

-- bytes of a line, and of a word
abbrev pub IsLine : List ℕ → Type 0
IsLine l = All (λ b. 32 ≤ b) l

abbrev pub IsWord : List ℕ → Type 0
IsWord w = All (λ b. 48 ≤ b) w

-- bytes of a field: none is a blank
abbrev pub IsPlainField : List ℕ → Type 0
IsPlainField w = All (λ b. 33 ≤ b) w

pub word_field : (w : List ℕ) → IsWord w → IsPlainField w
word_field w h = λ k d l. let low = h k d l in omega arith

pub word_line : (w : List ℕ) → IsWord w → IsLine w
word_line w h = λ k d l. let low = h k d l in omega arith

-- lines, each with its end
abbrev pub text_of : List (List ℕ) → List ℕ
text_of [] = []
text_of (l ∷ ls) = l ++ 10 ∷ text_of ls

abbrev pub AreLines : List (List ℕ) → Type 0
AreLines [] = Unit {0}
AreLines (l ∷ ls) = IsLine l × AreLines ls

pub unequal : (b c : ℕ) → (b ≡ c → ⊥) → eqb b c ≡ false
unequal b c ne = ⊎_elim (λ p. absurd (ne p.1)) (λ p. p.0) (eqb_tells b c)

abbrev is_newline : ℕ → Bool
is_newline b = eqb b 10

split_text : (ls : List (List ℕ)) → AreLines ls → slice_split is_newline (text_of ls) ≡ ls ++ [] ∷ []
split_text [] h = refl
split_text (l ∷ ls) h =
    slice_split_at is_newline l 10 (text_of ls) (λ k d m. unequal _ 10 (λ e. let low = h.0 k d m in omega arith)) refl
    ∙ ap (λ (ps : List (List ℕ)). l ∷ ps) (split_text ls h.1)

-- a line has no carriage return at its end
unstripped : (l : List ℕ) → IsLine l → strip_carriage_return l ≡ l
unstripped [] h = refl
unstripped (b ∷ bs) h =
    let last = h (length (b ∷ bs) - 1) 0 (omega arith) in
    let other = unequal (get_or (b ∷ bs) (length (b ∷ bs) - 1) 0) 13 (λ e. omega arith) in
    ap (λ (v : Bool). cond v (take (length (b ∷ bs) - 1) (b ∷ bs)) (b ∷ bs)) other

join_parts : (ls : List (List ℕ)) → AreLines ls → lines_of_parts (ls ++ [] ∷ []) ≡ ls
join_parts [] h = refl
join_parts (l ∷ []) h = ap (λ (x : List ℕ). x ∷ []) (unstripped l h.0)
join_parts (l ∷ m ∷ ls) h = ap (λ (x : List ℕ). x ∷ lines_of_parts ((m ∷ ls) ++ [] ∷ [])) (unstripped l h.0) ∙ ap (λ (xs : List (List ℕ)). l ∷ xs) (join_parts (m ∷ ls) h.1)

pub lines_text : (ls : List (List ℕ)) → AreLines ls → lines (text_of ls) ≡ ls
lines_text ls h = ap lines_of_parts (split_text ls h) ∙ join_parts ls h

-- the lines of numbers
pub numbers_text : (ids : List ℕ) (rest : List (List ℕ)) → text_of (map decimal ids ++ rest) ≡ flat_map line_of ids ++ text_of rest
numbers_text [] rest = refl
numbers_text (id ∷ ids) rest =
    ap (λ (xs : List ℕ). decimal id ++ 10 ∷ xs) (numbers_text ids rest)
    ∙ sym (append_assoc (decimal id) (10 ∷ []) (flat_map line_of ids ++ text_of rest))
    ∙ sym (append_assoc (line_of id) (flat_map line_of ids) (text_of rest))

-- ---- fields

no_blank : (b : ℕ) → 33 ≤ b → is_blank b ≡ false
no_blank b low = ap (λ (v : Bool). v || eqb b 9) (unequal b 32 (λ e. omega arith)) ∙ unequal b 9 (λ e. omega arith)

kept : (x : List ℕ) (xs : List (List ℕ)) → 0 < length x → filter is_field (x ∷ xs) ≡ x ∷ filter is_field xs
kept [] xs h = absurd (omega arith)
kept (b ∷ bs) xs h = refl

pub one_field : (w : List ℕ) → IsPlainField w → 0 < length w → fields_of w ≡ w ∷ []
unfolding fields_of
one_field w h some = ap (filter is_field) (slice_split_none is_blank w (λ k d l. no_blank _ (h k d l))) ∙ kept w [] some

pub one_word : (w : List ℕ) → IsWord w → 0 < length w → fields_of w ≡ w ∷ []
one_word w h some = one_field w (word_field w h) some

pub next_word : (w rest : List ℕ) → IsWord w → 0 < length w → fields_of (w ++ 32 ∷ rest) ≡ w ∷ fields_of rest
unfolding fields_of
next_word w rest h some = ap (filter is_field) (slice_split_at is_blank w 32 rest (λ k d l. no_blank _ (word_field w h k d l)) refl) ∙ kept w (slice_split is_blank rest) some

-- ---- numbers

pub record IsNumeral (n : ℕ) (ds : List ℕ) : Type 0 where
  pub digits : all_ascii_digits ds ≡ true
  pub value : digits_value 10 ds ≡ n
  pub some : 0 < length ds
  pub word : IsWord ds

pub digits-append : (xs ys : List ℕ) → all_ascii_digits xs ≡ true → all_ascii_digits ys ≡ true → all_ascii_digits (xs ++ ys) ≡ true
digits-append [] ys p q = q
digits-append (x ∷ xs) ys p q =
    let parts = and_parts (is_ascii_digit x) (all_ascii_digits xs) p in
    and_from (is_ascii_digit x) (all_ascii_digits (xs ++ ys)) parts.0 (digits-append xs ys parts.1 q)

pub digit_byte : (n : ℕ) → n < 10 → digit_value (48 + n) ≡ n
digit_byte n small = let sum = digit_value_digit (48 + n) (omega arith, omega arith) in omega (arith, sum)

digit : (n : ℕ) → n < 10 → all_ascii_digits ((48 + n) ∷ []) ≡ true
digit n small = and_from (is_ascii_digit (48 + n)) true (and_from (leb 48 (48 + n)) (leb (48 + n) 57) (le-leb 48 (48 + n) (omega arith)) (le-leb (48 + n) 57 (omega arith))) refl

pub one_digit : (n : ℕ) → n < 10 → IsNumeral n ((48 + n) ∷ [])
one_digit n small = record {
  digits = digit n small;
  value = ap (λ (d : ℕ). 0 + d) (digit_byte n small) ∙ omega arith;
  some = omega arith;
  word = All-cons (λ b. 48 ≤ b) (48 + n) [] (omega arith) (All-nil (λ b. 48 ≤ b));
}

-- one digit more
pub push_digit : (n : ℕ) (ds : List ℕ) → IsNumeral (n / 10) ds → IsNumeral n (ds ++ (48 + n % 10) ∷ [])
push_digit n ds h =
    let last = one_digit (n % 10) (omega arith) in
    record {
      digits = digits-append ds ((48 + n % 10) ∷ []) h.digits last.digits;
      value = (let e = digits_value_push 10 ds (48 + n % 10) in let v = h.value in let d = digit_byte (n % 10) (omega arith) in omega (arith, e, v, d));
      some = omega (arith, length_push ds (48 + n % 10));
      word = All-append (λ b. 48 ≤ b) ds ((48 + n % 10) ∷ []) h.word last.word;
    }

pub numeral : (n : ℕ) → n < 10 ^ 64 → IsNumeral n (decimal n)
numeral n fits = decimal_by_steps_wide IsNumeral one_digit (λ m ds more h. push_digit m ds h) n fits

pub digits_read : (most n : ℕ) → 0 < most → n < 10 ^ most → n < 10 ^ 64 → digits_of most (decimal n) ≡ Some n
unfolding digits_of
digits_read most n some small fits =
    let h = numeral n fits in
    let short = length-decimal-le_wide most n some small fits in
    let test : ((ltb 0 (length (decimal n)) && leb (length (decimal n)) most) && all_ascii_digits (decimal n)) ≡ true =
    and_from (ltb 0 (length (decimal n)) && leb (length (decimal n)) most) (all_ascii_digits (decimal n))
    (and_from (ltb 0 (length (decimal n))) (leb (length (decimal n)) most) (lt-ltb 0 (length (decimal n)) h.some) (le-leb (length (decimal n)) most short)) h.digits in
    ap (λ (v : Bool). cond v (Some (digits_value 10 (decimal n))) None) test ∙ ap (λ (m : ℕ). Some m) h.value
