-- A list of factors, written as whole numbers between commas.
use Rattle.std.specs.Prelude.{◌≡◌, ℕ, ◌==◌, Bool, List, [], map, Option, Some, None}
use Rattle.std.specs.List.{slice_split}
use Rattle.minelib_reader.specs.Number.{whole_of}

abbrev pub is_comma : ℕ → Bool
is_comma b = b == 44

-- the items behind a comma, where there is one
abbrev pub items_behind : Option (List ℕ) → List (List ℕ)
items_behind None = []
items_behind (Some rest) = slice_split is_comma rest

-- the items of a text, each with its number where it is a whole one
abbrev pub item_numbers : List ℕ → List (Option ℕ)
item_numbers text = map whole_of (slice_split is_comma text)

-- the text spells these factors
abbrev pub SpellsFactors : List ℕ → List ℕ → Type 0
SpellsFactors text factors = item_numbers text ≡ map (λ factor. Some factor) factors
