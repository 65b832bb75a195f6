-- A number of units of 10^-k that a text with k decimals writes; and the law that a printed number reads back as itself.
use Rattle.std.specs.Prelude.{◌≡◌, ℕ, ◌<◌, ◌^◌, ◌==◌, nat_lt, ◌&&◌, if◌then◌else◌, ℤ, pos, neg_ℤ, unsigned_abs, List, ◌++◌, length, drop, slice_index, Option, Some, None}
use Rattle.std.specs.Option.{option_map}
use Rattle.std.specs.Str.{all_ascii_digits}
use Rattle.std.specs.Str.Parse.{digits_value}
use Rattle.minelib_reader.specs.Number.{cut_at, decimal_of, point}
use Rattle.pit_model.specs.PitText.{with_decimals, with_six_decimals}

-- digits before a point and k digits behind it: together they write the number of units
abbrev pub units_parts : ℕ → Option (List ℕ × List ℕ) → Option ℕ
units_parts k None = None
units_parts k (Some parts) =
    if (nat_lt 0 (length parts.0) && length parts.1 == k) && all_ascii_digits (parts.0 ++ parts.1) then Some (digits_value 10 (parts.0 ++ parts.1)) else None

-- a sign `-` or none, and these
unfoldable pub units_of : ℕ → List ℕ → Option ℤ
units_of k text =
    if slice_index text 0 == 45 then option_map (λ n. neg_ℤ (pos n)) (units_parts k (cut_at point (drop 1 text)))
    else option_map (λ n. pos n) (units_parts k (cut_at point text))

-- the law: a number printed with k decimals reads back as itself; and one with six, below a million millions, as the readers of models read it
pub record NumbersReadBack : Type 0 where
  pub units : (k : ℕ) (x : ℤ) → unsigned_abs x < 10 ^ 64 → units_of k (with_decimals k x) ≡ Some x
  pub decimal : (x : ℤ) → unsigned_abs x < 10 ^ 18 → decimal_of (with_six_decimals x) ≡ Some x
