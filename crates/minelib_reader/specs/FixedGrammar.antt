-- The grammar of a file of fixed blocks, by cases on the lines with fields.
use Rattle.std.specs.Prelude.{◌≡◌, ℕ, ◌+◌, ◌<◌, ◌≤◌, Bool, List, [], ◌∷◌, Some}
use Rattle.pit_model.specs.Fixed.{FixedLists}
use Rattle.minelib_reader.specs.Text.{Row, rows_of}
use Rattle.minelib_reader.specs.Number.{whole_of}
use Rattle.minelib_reader.specs.Fixed.{fixing_word, fixed_lists, with_block}

-- the line of a block that is forced in or else barred, where its id is at least from
pub record SpellsFixedLine (n from : ℕ) (r : Row) (is_forced : Bool) (id : ℕ) : Type 0 where
  pub field : List ℕ
  pub fields : r.fields ≡ fixing_word is_forced ∷ field ∷ []
  pub is_id : whole_of field ≡ Some id
  pub known : id < n
  pub rising : from ≤ id

-- the lines, in order, whose ids are at least from: they rise from line to line, whichever the word
abbrev pub SpellsFixedLines : ℕ → ℕ → List Row → FixedLists → Type 0
SpellsFixedLines n from [] lists = lists ≡ fixed_lists [] []
SpellsFixedLines n from (r ∷ rows) lists =
    (is_forced : Bool) × (id : ℕ) × (behind : FixedLists) × SpellsFixedLine n from r is_forced id × (lists ≡ with_block is_forced id behind)
    × SpellsFixedLines n (id + 1) rows behind

-- the text spells these fixed blocks of n
abbrev pub SpellsFixed : ℕ → List ℕ → FixedLists → Type 0
SpellsFixed n text lists = SpellsFixedLines n 0 (rows_of text) lists
