-- The lines that a text about a graph begins with: its title, and the graph's counts of blocks and arcs. Each is checked by
-- the input that it stands in and by its word.
use Rattle.std.specs.Prelude.{◌≡◌, ℕ, ◌==◌, List, [], ◌∷◌, Option, Some, None, Result, Ok, codes}
use Rattle.std.specs.Str.{bytes_eq}
use Rattle.std.specs.Option.{ok_or}
use Rattle.faults.specs.declared.fault.Fault.{Fault}
use Rattle.faults.specs.declared.refusal.Refusal.TheVariants.{WrongHeader, NotWhole, CountsDiffer}
use Rattle.faults.specs.declared.source.Source.{Source}
use Rattle.faults.specs.Refused.{at_line}
use Rattle.minelib_reader.specs.Checks.{◌>>=◌, ok_if}
use Rattle.minelib_reader.specs.Text.{Row, two_of}
use Rattle.minelib_reader.specs.Number.{whole_of}
use Rattle.minelib_reader.specs.Upit.{are_words}

-- the three fields of a line that has three
abbrev pub three_of : List (List ℕ) → Option (List ℕ × List ℕ × List ℕ)
three_of (a ∷ b ∷ c ∷ []) = Some (a, b, c)
three_of fs = None

-- this word, and the form's number 1
unfoldable pub title_line : Source → List ℕ → Row → Result (Unit {0}) Fault
title_line source word r = ok_if (are_words word (codes "1") (two_of r.fields)) (at_line source WrongHeader r.line)

-- this word, and one field, which is given
unfoldable pub field_line : Source → List ℕ → Row → Result (List ℕ) Fault
field_line source word r = do
  pair ← ok_or (two_of r.fields) (at_line source WrongHeader r.line)
  header ← ok_if (bytes_eq pair.0 word) (at_line source WrongHeader r.line)
  Ok pair.1

-- this word, and a whole number
unfoldable pub number_line : Source → List ℕ → Row → Result ℕ Fault
number_line source word r = do
  field ← field_line source word r
  ok_or (whole_of field) (at_line source NotWhole r.line)

-- a count that is the graph's
unfoldable pub same_line : Source → List ℕ → ℕ → Row → Result (Unit {0}) Fault
same_line source word count r = do
  n ← number_line source word r
  ok_if (n == count) (at_line source CountsDiffer r.line)

-- the grammar: a line of this word and this number
pub record SpellsNumber (word : List ℕ) (number : ℕ) (r : Row) : Type 0 where
  pub field : List ℕ
  pub fields : r.fields ≡ word ∷ field ∷ []
  pub is_number : whole_of field ≡ Some number
