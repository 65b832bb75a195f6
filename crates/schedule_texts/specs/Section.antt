-- A section of a text: lines of a word and as many numbers as the section has columns, each line checked in this order. If lines are numbered,
-- the number of the line in its section is between its word and its numbers.
use Rattle.std.specs.Prelude.{◌≡◌, ℕ, zero, suc, ℤ, pos, ◌+◌, ◌-◌, ◌*◌, ◌==◌, ◌++◌, List, [], ◌∷◌, length, Option, Some, None, Result, Ok, Err, Bool, true, false}
use Rattle.std.specs.Str.{bytes_eq}
use Rattle.std.specs.Option.{ok_or, option_map}
use Rattle.faults.specs.declared.fault.Fault.{Fault}
use Rattle.faults.specs.declared.refusal.Refusal.{Refusal}
use Rattle.faults.specs.declared.refusal.Refusal.TheVariants.{WrongHeader, NotWhole, NotDecimal, IdOutOfPlace, WrongFieldCount, EndsEarly, AfterEnd}
use Rattle.faults.specs.declared.source.Source.TheVariants as sources
use Rattle.faults.specs.Refused.{at_line}
use Rattle.minelib_reader.specs.Checks.{◌>>=◌, ok_if}
use Rattle.minelib_reader.specs.Text.{Row}
use Rattle.minelib_reader.specs.Number.{whole_of, decimal_of}
use Rattle.report.specs.HeadLines.{number_line, same_line}
use Rattle.schedule_texts.specs.declared.section.Columns.{Columns}
use Rattle.schedule_texts.specs.declared.word.Word.{Word}
use Rattle.schedule_texts.specs.Words.{text_of}

abbrev pub in_text : Refusal → ℕ → Fault
in_text refusal line = at_line sources.None refusal line

-- the number of a field: whole in the first columns, and a decimal, in millionths, in the others
abbrev pub field_number : ℕ → List ℕ → Option ℤ
field_number zero field = decimal_of field
field_number (suc wholes) field = option_map (λ n. pos n) (whole_of field)

abbrev pub no_number : ℕ → Refusal
no_number zero = NotDecimal
no_number (suc wholes) = NotWhole

unfoldable pub numeric_field : ℕ → ℕ → List ℕ → Result ℤ Fault
numeric_field line wholes field = ok_or (field_number wholes field) (in_text (no_number wholes) line)

-- the numbers of fields; the first ones are whole
unfoldable pub numeric_fields : ℕ → ℕ → List (List ℕ) → Result (List ℤ) Fault
numeric_fields line wholes [] = Ok []
numeric_fields line wholes (field ∷ fields) = do
  number ← numeric_field line wholes field
  others ← numeric_fields line (wholes - 1) fields
  Ok (number ∷ others)

-- the first field of a line, and the others
abbrev pub word_and_more : List (List ℕ) → Option (List ℕ × List (List ℕ))
word_and_more [] = None
word_and_more (word ∷ fields) = Some (word, fields)

-- the fields after the number of a line, if lines are numbered
unfoldable pub own_fields : Bool → ℕ → ℕ → List (List ℕ) → Result (List (List ℕ)) Fault
own_fields false place line fields = Ok fields
own_fields true place line fields = do
  parts ← ok_or (word_and_more fields) (in_text WrongFieldCount line)
  number ← ok_or (whole_of parts.0) (in_text NotWhole line)
  own ← ok_if (number == place) (in_text IdOutOfPlace line)
  Ok parts.1

-- the numbers of the line at a place of its section
unfoldable pub section_line : Word → Columns → ℕ → Row → Result (List ℤ) Fault
section_line word columns place r = do
  parts ← ok_or (word_and_more r.fields) (in_text WrongHeader r.line)
  named ← ok_if (bytes_eq parts.0 (text_of word)) (in_text WrongHeader r.line)
  fields ← own_fields columns.numbered place r.line parts.1
  wide ← ok_if (length fields == columns.width) (in_text WrongFieldCount r.line)
  numeric_fields r.line columns.wholes fields

-- the next row, where one is due; count is the number of lines of the text
abbrev pub due_row : ℕ → List Row → Result (Row × List Row) Fault
due_row count [] = Err (in_text EndsEarly (count + 1))
due_row count (row ∷ rows) = Ok (row, rows)

-- no row is left
abbrev pub no_row_left : List Row → Result (Unit {0}) Fault
no_row_left [] = Ok tt
no_row_left (r ∷ rows) = Err (in_text AfterEnd r.line)

-- the numbers of k lines from a place of the section on, line by line, and the rows after them
unfoldable pub lines_from : ℕ → Word → Columns → ℕ → ℕ → List Row → Result (List ℤ × List Row) Fault
lines_from count word columns place zero rows = Ok ([], rows)
lines_from count word columns place (suc k) rows = do
  first ← due_row count rows
  numbers ← section_line word columns place first.0
  others ← lines_from count word columns (place + 1) k first.1
  Ok (numbers ++ others.0, others.1)

abbrev pub section_of : ℕ → Word → Columns → ℕ → List Row → Result (List ℤ × List Row) Fault
section_of count word columns k rows = lines_from count word columns 0 k rows

-- the whole number behind a word in the next line, and the rows after it
unfoldable pub count_of : ℕ → Word → List Row → Result (ℕ × List Row) Fault
count_of count word rows = do
  first ← due_row count rows
  number ← number_line sources.None (text_of word) first.0
  Ok (number, first.1)

-- a word and this number in the next line, and the rows after it
unfoldable pub same_count : ℕ → Word → ℕ → List Row → Result (List Row) Fault
same_count count word number rows = do
  first ← due_row count rows
  same ← same_line sources.None (text_of word) number first.0
  Ok first.1

-- a line is lawful, and its numbers stand behind those before
pub record AddsNumbers (word : Word) (columns : Columns) (place : ℕ) (r : Row) (old new : List ℤ) : Type 0 where
  pub own : List ℤ
  pub read : section_line word columns place r ≡ Ok own
  pub added : new ≡ old ++ own
  pub wide : length own ≡ columns.width
