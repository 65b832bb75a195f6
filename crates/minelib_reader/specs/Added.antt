-- What the reading of one line of a block model file adds to what it keeps.
use Rattle.std.specs.Prelude.{◌≡◌, ℕ, ℤ, ◌++◌, List, length, Ok}
use Rattle.minelib_reader.specs.Blocks.{block_line}
use Rattle.minelib_reader.specs.Table.{Place}
use Rattle.minelib_reader.specs.Text.{Row}

-- the line is lawful, and its attributes, of which there are so many, stand behind those before
pub record AddsBlock (width i : ℕ) (r : Row) (place : Place) (old new : List ℤ) : Type 0 where
  pub own : List ℤ
  pub read : block_line width i r ≡ Ok (place, own)
  pub added : new ≡ old ++ own
  pub wide : length own ≡ width
