-- The block model file: the checks of each line in their order, and the reading of all lines by them.
use Rattle.std.specs.Prelude.{ℕ, ◌+◌, ◌-◌, ℤ, pos, neg_ℤ, Bool, int_le, nat_lt, nat_le, ◌==◌, ◌&&◌, List, [], ◌∷◌, ◌++◌, length, Result, Ok}
use Rattle.faults.specs.declared.fault.Fault.{Fault}
use Rattle.faults.specs.declared.refusal.Refusal.{Refusal}
use Rattle.faults.specs.declared.refusal.Refusal.TheVariants.{OverLimit, NotWhole, NotDecimal, IdOutOfPlace, WrongFieldCount}
use Rattle.faults.specs.declared.source.Source.TheVariants.{Blocks}
use Rattle.minelib_reader.specs.Checks.{◌>>=◌, ok_if}
use Rattle.std.specs.Option.{ok_or}
use Rattle.faults.specs.Refused.{at_line}
use Rattle.minelib_reader.specs.Text.{Row, rows_of, four_and_more}
use Rattle.minelib_reader.specs.Number.{whole_of, signed_of, decimal_of}
use Rattle.minelib_reader.specs.Table.{Place, Table, table}
use Rattle.pit_model.specs.Size.{most_blocks}

-- the most attributes of a block
abbrev pub most_columns : ℕ
most_columns = 64

abbrev pub in_blocks : Refusal → ℕ → Fault
in_blocks refusal line = at_line Blocks refusal line

-- how many attributes the blocks have: those of the first line
unfoldable pub width_line : Row → Result ℕ Fault
width_line r = do
  enough ← ok_if (nat_le 4 (length r.fields)) (in_blocks WrongFieldCount r.line)
  few ← ok_if (nat_le (length r.fields - 4) most_columns) (in_blocks OverLimit r.line)
  Ok (length r.fields - 4)

abbrev pub width_of : List Row → Result ℕ Fault
width_of [] = Ok 0
width_of (r ∷ rows) = width_line r

-- it lies from -2^31 up to 2^31
abbrev pub is_coordinate : ℤ → Bool
is_coordinate c = int_le (neg_ℤ (pos 2147483648)) c && int_le c (pos 2147483647)

unfoldable pub coordinate_of : ℕ → List ℕ → Result ℤ Fault
coordinate_of line field = do
  c ← ok_or (signed_of field) (in_blocks NotWhole line)
  fits ← ok_if (is_coordinate c) (in_blocks OverLimit line)
  Ok c

-- the place of block i, and the fields that write its attributes
unfoldable pub front_of : ℕ → ℕ → Row → Result (Place × List (List ℕ)) Fault
front_of width i r = do
  parts ← ok_or (four_and_more r.fields) (in_blocks WrongFieldCount r.line)
  wide ← ok_if (length parts.4 == width) (in_blocks WrongFieldCount r.line)
  id ← ok_or (whole_of parts.0) (in_blocks NotWhole r.line)
  in_place ← ok_if (id == i) (in_blocks IdOutOfPlace r.line)
  few ← ok_if (nat_lt id most_blocks) (in_blocks OverLimit r.line)
  x ← coordinate_of r.line parts.1
  y ← coordinate_of r.line parts.2
  z ← coordinate_of r.line parts.3
  Ok ((x, y, z), parts.4)

unfoldable pub attribute_of : ℕ → List ℕ → Result ℤ Fault
attribute_of line field = ok_or (decimal_of field) (in_blocks NotDecimal line)

-- attributes, from left to right
unfoldable pub attributes_of : ℕ → List (List ℕ) → Result (List ℤ) Fault
attributes_of line [] = Ok []
attributes_of line (field ∷ fields) = do
  value ← attribute_of line field
  others ← attributes_of line fields
  Ok (value ∷ others)

-- the place of block i, and its attributes
unfoldable pub block_line : ℕ → ℕ → Row → Result (Place × List ℤ) Fault
block_line width i r = do
  front ← front_of width i r
  attributes ← attributes_of r.line front.1
  Ok (front.0, attributes)

-- the places and the attributes of the blocks from i on
unfoldable pub blocks_from : ℕ → ℕ → List Row → Result (List Place × List ℤ) Fault
blocks_from width i [] = Ok ([], [])
blocks_from width i (r ∷ rows) = do
  block ← block_line width i r
  others ← blocks_from width (i + 1) rows
  Ok (block.0 ∷ others.0, block.1 ++ others.1)

abbrev pub as_table : ℕ → Result (List Place × List ℤ) Fault → Result Table Fault
as_table width reading = do
  blocks ← reading
  Ok (table width blocks.0 blocks.1)

unfoldable pub table_of_rows : List Row → Result Table Fault
table_of_rows rows = do
  width ← width_of rows
  as_table width (blocks_from width 0 rows)

-- the table that a text spells, or its first fault
abbrev pub table_of : List ℕ → Result Table Fault
table_of text = table_of_rows (rows_of text)
