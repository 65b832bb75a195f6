-- What is written of a head spells it: a line of a word and a number, and the title.
use Rattle.std.proofs.Common.{◌≡◌, ℕ, ◌^◌, ◌<◌, ◌≤◌, ◌&&◌, leb, Bool, true, List, [], ◌∷◌, ◌++◌, length, Some, ap, ◌∙◌, refl, arith}
use Rattle.std.specs.Prelude.{codes, decimal}
use Rattle.std.specs.List.{All}
use Rattle.std.proofs.lemmas.Bool.{and_parts, leb-true}
use Rattle.std.proofs.lemmas.List.Elements.{All-append, All-cons, All-nil}
use Rattle.minelib_reader.specs.Number.{whole_of}
use Rattle.minelib_reader.specs.Text.{row, fields_of}
use Rattle.report.specs.HeadLines.{SpellsNumber}
use Rattle.report.proofs.PlainLines.{IsLine, IsWord, IsNumeral, word_line, one_word, next_word, numeral, digits_read}

pub whole_read : (n : ℕ) → n ≤ 2 ^ 26 → whole_of (decimal n) ≡ Some n
whole_read n small = digits_read 10 n (omega arith) (omega arith) (omega arith)

pub written : (n : ℕ) → n ≤ 10 ^ 30 → IsNumeral n (decimal n)
written n small = numeral n (omega arith)

-- ---- a line of two words

abbrev pub two_words : List ℕ → List ℕ → List ℕ
two_words word other = word ++ 32 ∷ other

pub two_fields : (word other : List ℕ) → IsWord word → 0 < length word → IsWord other → 0 < length other → fields_of (two_words word other) ≡ word ∷ other ∷ []
two_fields word other is some other_is other_some = next_word word other is some ∙ ap (λ (fs : List (List ℕ)). word ∷ fs) (one_word other other_is other_some)

pub two_plain : (word other : List ℕ) → IsWord word → IsWord other → IsLine (two_words word other)
two_plain word other is other_is =
    All-append (λ b. 32 ≤ b) word (32 ∷ other) (word_line word is) (All-cons (λ b. 32 ≤ b) 32 other (omega arith) (word_line other other_is))

-- ---- a line of a word and a number

abbrev pub number_words : List ℕ → ℕ → List ℕ
number_words word n = two_words word (decimal n)

pub names : (k : ℕ) (word : List ℕ) (n : ℕ) → IsWord word → 0 < length word → n ≤ 2 ^ 26 → SpellsNumber word n (row k (fields_of (number_words word n)))
names k word n is some small =
    let d = written n (omega arith) in
    record { field = decimal n; fields = two_fields word (decimal n) is some d.word d.some; is_number = whole_read n small }

pub number_line_plain : (word : List ℕ) (n : ℕ) → IsWord word → n ≤ 2 ^ 26 → IsLine (number_words word n)
number_line_plain word n is small = two_plain word (decimal n) is (written n (omega arith)).word

-- ---- words that are given

-- a test of each byte
abbrev all_from : ℕ → List ℕ → Bool
all_from low [] = true
all_from low (b ∷ bs) = leb low b && all_from low bs

pub tested : (low : ℕ) (bs : List ℕ) → all_from low bs ≡ true → All (λ b. low ≤ b) bs
tested low [] e = All-nil (λ b. low ≤ b)
tested low (b ∷ bs) e =
    let parts = and_parts (leb low b) (all_from low bs) e in
    All-cons (λ c. low ≤ c) b bs (leb-true low b parts.0) (tested low bs parts.1)

pub blocks_word : IsWord (codes "BLOCKS:")
blocks_word = tested 48 (codes "BLOCKS:") refl

pub arcs_word : IsWord (codes "ARCS:")
arcs_word = tested 48 (codes "ARCS:") refl

one_byte : IsWord (codes "1")
one_byte = tested 48 (codes "1") refl

pub title_plain : (word : List ℕ) → IsWord word → IsLine (two_words word (codes "1"))
title_plain word is = two_plain word (codes "1") is one_byte

pub title_fields : (word : List ℕ) → IsWord word → 0 < length word → fields_of (two_words word (codes "1")) ≡ word ∷ codes "1" ∷ []
title_fields word is some = two_fields word (codes "1") is some one_byte (omega arith)
