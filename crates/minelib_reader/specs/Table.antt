-- A block model: a place for each block, and as many attributes for each as the table is wide.
use Rattle.std.specs.Prelude.{◌≡◌, ℕ, ◌+◌, ◌*◌, ◌^◌, ◌≤◌, ℤ, pos, List, length, get_or}
use Rattle.std.specs.List.{All}
use Rattle.pit_model.specs.Size.{most_blocks}
use Rattle.minelib_reader.specs.Number.{IsBounded}

-- the place of a block, along x, y and z
abbrev pub Place : Type 0
Place = ℤ × ℤ × ℤ

-- the places of the blocks, and their attributes in millionths: those of block 0, then those of block 1, and so on
pub record Table : Type 0 where
  pub width : ℕ
  pub places : List Place
  pub attributes : List ℤ

abbrev pub table : ℕ → List Place → List ℤ → Table
table width places attributes = record { width = width; places = places; attributes = attributes }

abbrev pub place_in : Table → ℕ → Place
place_in t u = get_or t.places u (pos 0, pos 0, pos 0)

-- attribute k of block u
abbrev pub attribute_in : Table → ℕ → ℕ → ℤ
attribute_in t u k = get_or t.attributes (u * t.width + k) (pos 0)

-- the limits of a table that was read, each attribute within 10^18 of 0
pub record IsWhole (width : ℕ) (places : List Place) (attributes : List ℤ) : Type 0 where
  pub narrow : width ≤ 64
  pub few : length places ≤ most_blocks
  pub full : length attributes ≡ length places * width
  pub small : All (IsBounded (10 ^ 18)) attributes
