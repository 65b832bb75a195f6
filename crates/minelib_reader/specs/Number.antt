-- The numbers that a field writes.
use Rattle.std.specs.Prelude.{ℕ, ℤ, pos, neg_ℤ, ◌≤ℤ◌, ◌+◌, ◌-◌, ◌*◌, ◌^◌, ◌==◌, nat_lt, nat_le, ◌&&◌, if◌then◌else◌, List, length, take, drop, position, slice_index, Option, Some, None, option_and_then}
use Rattle.std.specs.Option.{option_map}
use Rattle.std.specs.Str.{all_ascii_digits}
use Rattle.std.specs.Str.Parse.{digits_value}

-- the number that 1 to `most` digits write
unfoldable pub digits_of : ℕ → List ℕ → Option ℕ
digits_of most ds = if (nat_lt 0 (length ds) && nat_le (length ds) most) && all_ascii_digits ds then Some (digits_value 10 ds) else None

-- a whole number: 1 to 10 digits
abbrev pub whole_of : List ℕ → Option ℕ
whole_of field = digits_of 10 field

-- a sign `-` or none, and 1 to 10 digits
unfoldable pub signed_of : List ℕ → Option ℤ
signed_of field =
    if slice_index field 0 == 45 then option_and_then (λ n. Some (neg_ℤ (pos n))) (whole_of (drop 1 field))
    else option_and_then (λ n. Some (pos n)) (whole_of field)

-- what stands before and after a place
abbrev pub parts_at : List ℕ → ℕ → List ℕ × List ℕ
parts_at text at = (take at text, drop (at + 1) text)

-- what stands before and after the first b
unfoldable pub cut_at : ℕ → List ℕ → Option (List ℕ × List ℕ)
cut_at b text = option_map (parts_at text) (position (λ x. x == b) text)

-- at most so far from 0
abbrev pub IsBounded : ℕ → ℤ → Type 0
IsBounded limit v = (neg_ℤ (pos limit) ≤ℤ v) × (v ≤ℤ pos limit)

abbrev pub point : ℕ
point = 46

-- 1 to 12 digits, and behind a point 1 to 6 more, as millionths
abbrev pub millionths_parts : List ℕ → Option (List ℕ × List ℕ) → Option ℕ
millionths_parts text None = option_and_then (λ whole. Some (whole * 1000000)) (digits_of 12 text)
millionths_parts text (Some parts) =
    option_and_then
    (λ whole. option_and_then (λ part. Some (whole * 1000000 + part * 10 ^ (6 - length parts.1))) (digits_of 6 parts.1))
    (digits_of 12 parts.0)

unfoldable pub millionths_of : List ℕ → Option ℕ
millionths_of text = millionths_parts text (cut_at point text)

-- a decimal: a sign or none, and millionths
unfoldable pub decimal_of : List ℕ → Option ℤ
decimal_of field =
    if slice_index field 0 == 45 then option_and_then (λ m. Some (neg_ℤ (pos m))) (millionths_of (drop 1 field))
    else (if slice_index field 0 == 43 then option_and_then (λ m. Some (pos m)) (millionths_of (drop 1 field))
    else option_and_then (λ m. Some (pos m)) (millionths_of field))
