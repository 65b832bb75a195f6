-- An optimisation model: the checks of each line in their order, and the reading of all lines by them.
use Rattle.std.specs.Prelude.{ℕ, zero, suc, ℤ, ◌+◌, Bool, false, nat_le, ◌==◌, ◌&&◌, List, [], ◌∷◌, Option, Some, None, Result, Ok, Err, codes}
use Rattle.std.specs.Str.{bytes_eq}
use Rattle.faults.specs.declared.fault.Fault.{Fault}
use Rattle.faults.specs.declared.refusal.Refusal.{Refusal}
use Rattle.faults.specs.declared.refusal.Refusal.TheVariants.{WrongHeader, OverLimit, NotWhole, NotDecimal, IdOutOfPlace, WrongFieldCount, EndsEarly, AfterEnd}
use Rattle.faults.specs.declared.source.Source.TheVariants.{Model}
use Rattle.minelib_reader.specs.Checks.{◌>>=◌, ok_if}
use Rattle.std.specs.Option.{ok_or}
use Rattle.faults.specs.Refused.{at_line}
use Rattle.pit_model.specs.Size.{most_blocks}
use Rattle.minelib_reader.specs.Text.{Row, rows_of, count_of_lines, two_of}
use Rattle.minelib_reader.specs.Number.{whole_of, decimal_of}

abbrev pub in_model : Refusal → ℕ → Fault
in_model refusal line = at_line Model refusal line

-- the next row, where one is due; count is the number of lines of the text
abbrev pub due : ℕ → List Row → Result (Row × List Row) Fault
due count [] = Err (in_model EndsEarly (count + 1))
due count (row ∷ rows) = Ok (row, rows)

-- the first field is this word
abbrev pub starts_by : List ℕ → List (List ℕ) → Bool
starts_by word [] = false
starts_by word (f ∷ fs) = bytes_eq f word

-- the fields are this one word
abbrev pub is_word : List ℕ → List (List ℕ) → Bool
is_word word (f ∷ []) = bytes_eq f word
is_word word fs = false

-- the fields are these two words
abbrev pub are_words : List ℕ → List ℕ → Option (List ℕ × List ℕ) → Bool
are_words a b None = false
are_words a b (Some p) = bytes_eq p.0 a && bytes_eq p.1 b

unfoldable pub name_line : Row → Result (Unit {0}) Fault
name_line r = ok_if (starts_by (codes "NAME:") r.fields) (in_model WrongHeader r.line)

unfoldable pub type_line : Row → Result (Unit {0}) Fault
type_line r = ok_if (are_words (codes "TYPE:") (codes "UPIT") (two_of r.fields)) (in_model WrongHeader r.line)

-- the number of blocks
unfoldable pub blocks_line : Row → Result ℕ Fault
blocks_line r = do
  pair ← ok_or (two_of r.fields) (in_model WrongHeader r.line)
  header ← ok_if (bytes_eq pair.0 (codes "NBLOCKS:")) (in_model WrongHeader r.line)
  n ← ok_or (whole_of pair.1) (in_model NotWhole r.line)
  few ← ok_if (nat_le n most_blocks) (in_model OverLimit r.line)
  Ok n

unfoldable pub objective_line : Row → Result (Unit {0}) Fault
objective_line r = ok_if (is_word (codes "OBJECTIVE_FUNCTION:") r.fields) (in_model WrongHeader r.line)

-- the value of block i
unfoldable pub value_line : ℕ → Row → Result ℤ Fault
value_line i r = do
  pair ← ok_or (two_of r.fields) (in_model WrongFieldCount r.line)
  id ← ok_or (whole_of pair.0) (in_model NotWhole r.line)
  in_place ← ok_if (id == i) (in_model IdOutOfPlace r.line)
  ok_or (decimal_of pair.1) (in_model NotDecimal r.line)

-- the values of k blocks from i on, and the rows after them
unfoldable pub values_from : ℕ → ℕ → ℕ → List Row → Result (List ℤ × List Row) Fault
values_from count i zero rows = Ok ([], rows)
values_from count i (suc k) rows = do
  first ← due count rows
  value ← value_line i first.0
  others ← values_from count (i + 1) k first.1
  Ok (value ∷ others.0, others.1)

-- no row is left
abbrev pub ended : List Row → Result (Unit {0}) Fault
ended [] = Ok tt
ended (r ∷ rows) = Err (in_model AfterEnd r.line)

-- a model without where it lies in memory
pub record Upit : Type 0 where
  pub n : ℕ
  pub values : List ℤ

abbrev pub upit : ℕ → List ℤ → Upit
upit n values = record { n = n; values = values }

-- the number of blocks, and the rows after the four header lines
unfoldable pub header_of : ℕ → List Row → Result (ℕ × List Row) Fault
header_of count rows = do
  a ← due count rows
  name ← name_line a.0
  b ← due count a.1
  kind ← type_line b.0
  c ← due count b.1
  n ← blocks_line c.0
  d ← due count c.1
  objective ← objective_line d.0
  Ok (n, d.1)

unfoldable pub upit_of_rows : ℕ → List Row → Result Upit Fault
upit_of_rows count rows = do
  header ← header_of count rows
  values ← values_from count 0 header.0 header.1
  end ← ended values.1
  Ok (upit header.0 values.0)

-- the model that a text spells, or its first fault
abbrev pub upit_of : List ℕ → Result Upit Fault
upit_of text = upit_of_rows (count_of_lines text) (rows_of text)
