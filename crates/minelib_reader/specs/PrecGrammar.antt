-- The grammar of a precedence file, by cases on the lines with fields.
use Rattle.std.specs.Prelude.{◌≡◌, ◌≢◌, ℕ, ◌+◌, ◌<◌, ◌≤◌, List, [], ◌∷◌, ◌++◌, length, map, Option, Some}
use Rattle.std.specs.List.{All}
use Rattle.minelib_reader.specs.Text.{Row, rows_of}
use Rattle.minelib_reader.specs.Number.{whole_of}
use Rattle.pit_model.specs.Size.{most_pairs}
use Rattle.minelib_reader.specs.Prec.{pairs_of_line}

-- nothing stands twice in the list
abbrev pub AreDistinct : {A : Type 0} → List A → Type 0
AreDistinct [] = Unit {0}
AreDistinct (p ∷ ps) = All (λ q. q ≢ p) ps × AreDistinct ps

-- the numbers that fields write
abbrev pub numbers_of : List (List ℕ) → List (Option ℕ)
numbers_of fields = map whole_of fields

-- the line of block id with the blocks that it needs, where its id is at least from, and total are named before it
pub record SpellsLine (n from total : ℕ) (r : Row) (id : ℕ) (needs : List ℕ) : Type 0 where
  pub id_field : List ℕ
  pub count_field : List ℕ
  pub need_fields : List (List ℕ)
  pub fields : r.fields ≡ id_field ∷ count_field ∷ need_fields
  pub is_id : whole_of id_field ≡ Some id
  pub known : id < n
  pub rising : from ≤ id
  pub is_count : whole_of count_field ≡ Some (length needs)
  pub few : total + length needs ≤ most_pairs
  pub are_needs : numbers_of need_fields ≡ map Some needs
  pub below : All (λ p. p < n) needs
  pub others : All (λ p. p ≢ id) needs
  pub distinct : AreDistinct needs

-- the lines, in order, whose ids are at least from, and before which total blocks are named as needed
abbrev pub SpellsPairs : ℕ → ℕ → ℕ → List Row → List (ℕ × ℕ) → Type 0
SpellsPairs n from total [] pairs = pairs ≡ []
SpellsPairs n from total (r ∷ rows) pairs =
    (id : ℕ) × (needs : List ℕ) × (behind : List (ℕ × ℕ)) × SpellsLine n from total r id needs × (pairs ≡ pairs_of_line id needs ++ behind)
    × SpellsPairs n (id + 1) (total + length needs) rows behind

-- the text spells these pairs for n blocks
abbrev pub SpellsPrec : ℕ → List ℕ → List (ℕ × ℕ) → Type 0
SpellsPrec n text pairs = SpellsPairs n 0 0 (rows_of text) pairs
