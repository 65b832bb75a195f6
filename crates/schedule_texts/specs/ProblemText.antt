-- The text of a scheduling problem: its title, how many there are of each, and the sections of its numbers.
use Rattle.std.specs.Prelude.{◌≡◌, ℕ, ℤ, List, Result, Ok, true, false, codes}
use Rattle.faults.specs.declared.fault.Fault.{Fault}
use Rattle.faults.specs.declared.refusal.Refusal.TheVariants.{WrongHeader}
use Rattle.minelib_reader.specs.Checks.{◌>>=◌, ok_if}
use Rattle.minelib_reader.specs.Text.{Row, rows_of, count_of_lines, two_of}
use Rattle.minelib_reader.specs.Upit.{are_words}
use Rattle.schedule_texts.specs.declared.problem.Counts.{Counts}
use Rattle.schedule_texts.specs.declared.section.Columns.{Columns}
use Rattle.schedule_texts.specs.declared.word.Word.{Word}
use Rattle.schedule_texts.specs.declared.word.Word.TheVariants as words
use Rattle.schedule_texts.specs.Words.{text_of}
use Rattle.schedule_texts.specs.Section.{count_of, due_row, in_text, no_row_left, section_of}

abbrev pub counts : ℕ → ℕ → ℕ → ℕ → ℕ → ℕ → ℕ → Counts
counts blocks periods destinations columns limits values uses =
    record { blocks = blocks; periods = periods; destinations = destinations; columns = columns; limits = limits; values = values; uses = uses }

-- the counts of a problem and its numbers: discount factors, capacities limit by limit, terms of value (destination, column, lag),
-- terms of use (destination, limit, column, lag), and amounts block by block
pub record Lists : Type 0 where
  pub sizes : Counts
  pub discounts : List ℤ
  pub capacities : List ℤ
  pub values : List ℤ
  pub uses : List ℤ
  pub amounts : List ℤ

abbrev pub lists : Counts → List ℤ → List ℤ → List ℤ → List ℤ → List ℤ → Lists
lists sizes discounts capacities values uses amounts =
    record { sizes = sizes; discounts = discounts; capacities = capacities; values = values; uses = uses; amounts = amounts }

abbrev pub columns : ℕ → ℕ → Columns
columns width wholes = record { width = width; wholes = wholes; numbered = false }

-- decimals after the number of the line
abbrev pub numbered_columns : ℕ → Columns
numbered_columns width = record { width = width; wholes = 0; numbered = true }

-- the title, which is this word and the number 2 of the form
unfoldable pub titled : ℕ → Word → List Row → Result (List Row) Fault
titled count word rows = do
  first ← due_row count rows
  title ← ok_if (are_words (text_of word) (codes "2") (two_of first.0.fields)) (in_text WrongHeader first.0.line)
  Ok first.1

unfoldable pub counts_of : ℕ → List Row → Result (Counts × List Row) Fault
counts_of count rows = do
  blocks ← count_of count words.Blocks rows
  periods ← count_of count words.Periods blocks.1
  destinations ← count_of count words.Destinations periods.1
  width ← count_of count words.Columns destinations.1
  limits ← count_of count words.Limits width.1
  values ← count_of count words.Values limits.1
  uses ← count_of count words.Uses values.1
  Ok (counts blocks.0 periods.0 destinations.0 width.0 limits.0 values.0 uses.0, uses.1)

unfoldable pub sections_of : ℕ → Counts → List Row → Result (Lists × List Row) Fault
sections_of count c rows = do
  discounts ← section_of count words.Discounts (columns c.periods 0) 1 rows
  capacities ← section_of count words.Capacities (columns c.periods 0) c.limits discounts.1
  values ← section_of count words.Value (columns 3 3) c.values capacities.1
  uses ← section_of count words.Use (columns 4 4) c.uses values.1
  amounts ← section_of count words.Amounts (numbered_columns c.columns) c.blocks uses.1
  Ok (lists c discounts.0 capacities.0 values.0 uses.0 amounts.0, amounts.1)

unfoldable pub lists_of_rows : ℕ → List Row → Result Lists Fault
lists_of_rows count rows = do
  behind ← titled count words.Problem rows
  sizes ← counts_of count behind
  read ← sections_of count sizes.0 sizes.1
  end ← no_row_left read.1
  Ok read.0

-- the counts and the numbers that a text spells, or its first fault
abbrev pub lists_in : List ℕ → Result Lists Fault
lists_in text = lists_of_rows (count_of_lines text) (rows_of text)
