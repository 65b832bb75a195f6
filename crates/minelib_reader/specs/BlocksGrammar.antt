-- The grammar of a block model file, by cases on the lines with fields.
use Rattle.std.specs.Prelude.{◌≡◌, ℕ, ◌+◌, ◌<◌, ◌≤◌, ℤ, pos, neg_ℤ, ◌≤ℤ◌, List, [], ◌∷◌, ◌++◌, length, map, Some}
use Rattle.minelib_reader.specs.Text.{Row, rows_of}
use Rattle.minelib_reader.specs.Number.{whole_of, signed_of, decimal_of}
use Rattle.minelib_reader.specs.Table.{Place, Table, table}
use Rattle.minelib_reader.specs.Blocks.{most_columns}
use Rattle.pit_model.specs.Size.{most_blocks}

-- the field writes this coordinate, which lies from -2^31 up to 2^31
pub record SpellsCoordinate (field : List ℕ) (c : ℤ) : Type 0 where
  pub is : signed_of field ≡ Some c
  pub low : neg_ℤ (pos 2147483648) ≤ℤ c
  pub high : c ≤ℤ pos 2147483647

-- the line of block i with its place and its attributes, of which there are so many
pub record SpellsBlock (width i : ℕ) (r : Row) (place : Place) (attributes : List ℤ) : Type 0 where
  pub id : List ℕ
  pub x : List ℕ
  pub y : List ℕ
  pub z : List ℕ
  pub others : List (List ℕ)
  pub fields : r.fields ≡ id ∷ x ∷ y ∷ z ∷ others
  pub is_id : whole_of id ≡ Some i
  pub known : i < most_blocks
  pub is_x : SpellsCoordinate x place.0
  pub is_y : SpellsCoordinate y place.1
  pub is_z : SpellsCoordinate z place.2
  pub are_attributes : map decimal_of others ≡ map Some attributes
  pub wide : length attributes ≡ width

-- the lines of the blocks from i on, in order
abbrev pub SpellsBlocks : ℕ → ℕ → List Row → List Place → List ℤ → Type 0
SpellsBlocks width i [] places attributes = (places ≡ []) × (attributes ≡ [])
SpellsBlocks width i (r ∷ rows) places attributes =
    (place : Place) × (own : List ℤ) × (places_behind : List Place) × (behind : List ℤ) × SpellsBlock width i r place own × (places ≡ place ∷ places_behind)
    × (attributes ≡ own ++ behind) × SpellsBlocks width (i + 1) rows places_behind behind

-- a file without lines is a table with no blocks and no columns
abbrev pub SpellsRows : List Row → Table → Type 0
SpellsRows [] t = t ≡ table 0 [] []
SpellsRows (r ∷ rows) t = (t.width ≤ most_columns) × SpellsBlocks t.width 0 (r ∷ rows) t.places t.attributes

-- the text spells this table
abbrev pub SpellsTable : List ℕ → Table → Type 0
SpellsTable text t = SpellsRows (rows_of text) t
