-- A text is a list of lines, and a line a list of fields.
use Rattle.std.specs.Prelude.{ℕ, ◌+◌, Bool, true, false, ◌==◌, ◌||◌, List, [], ◌∷◌, length, filter, Option, Some, None}
use Rattle.std.specs.List.{slice_split}
use Rattle.std.specs.Str.Lines.{lines}

-- a space or a tab
abbrev pub is_blank : ℕ → Bool
is_blank b = (b == 32) || (b == 9)

-- a piece that isn't empty
abbrev pub is_field : List ℕ → Bool
is_field [] = false
is_field (b ∷ bs) = true

-- the pieces between blanks that aren't empty
unfoldable pub fields_of : List ℕ → List (List ℕ)
fields_of line = filter is_field (slice_split is_blank line)

-- a line with fields, and its number
pub record Row : Type 0 where
  pub line : ℕ
  pub fields : List (List ℕ)

abbrev pub row : ℕ → List (List ℕ) → Row
row k fs = record { line = k; fields = fs }

-- a line without fields is no row
abbrev pub with_row : ℕ → List (List ℕ) → List Row → List Row
with_row k [] rows = rows
with_row k (f ∷ fs) rows = row k (f ∷ fs) ∷ rows

-- the rows of lines, the first of which has the number k
unfoldable pub rows_from : ℕ → List (List ℕ) → List Row
rows_from k [] = []
rows_from k (l ∷ ls) = with_row k (fields_of l) (rows_from (k + 1) ls)

-- the two fields of a line that has two
abbrev pub two_of : List (List ℕ) → Option (List ℕ × List ℕ)
two_of (a ∷ b ∷ []) = Some (a, b)
two_of fs = None

-- the first two fields of a line that has them, and the others
abbrev pub two_and_more : List (List ℕ) → Option (List ℕ × List ℕ × List (List ℕ))
two_and_more (a ∷ b ∷ fs) = Some (a, b, fs)
two_and_more fs = None

-- the first four fields of a line that has them, and the others
abbrev pub four_and_more : List (List ℕ) → Option (List ℕ × List ℕ × List ℕ × List ℕ × List (List ℕ))
four_and_more (a ∷ b ∷ c ∷ d ∷ fs) = Some (a, b, c, d, fs)
four_and_more fs = None

-- the rows of the rest of a text before which k lines stand, and the number of lines of the whole text
abbrev pub rows_at : ℕ → List ℕ → List Row
rows_at k rest = rows_from (k + 1) (lines rest)

abbrev pub lines_at : ℕ → List ℕ → ℕ
lines_at k rest = k + length (lines rest)

-- the rows of a whole text, and the number of its lines
abbrev pub rows_of : List ℕ → List Row
rows_of text = rows_at 0 text

abbrev pub count_of_lines : List ℕ → ℕ
count_of_lines text = lines_at 0 text
