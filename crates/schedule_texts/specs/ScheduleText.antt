-- The texts of a schedule, share by share, and of the prices of limits.
use Rattle.std.specs.Prelude.{◌≡◌, ℕ, ℤ, List, Result, Ok}
use Rattle.faults.specs.declared.fault.Fault.{Fault}
use Rattle.minelib_reader.specs.Checks.{◌>>=◌}
use Rattle.minelib_reader.specs.Text.{Row, rows_of, count_of_lines}
use Rattle.schedule_texts.specs.declared.word.Word.TheVariants as words
use Rattle.schedule_texts.specs.Section.{count_of, no_row_left, same_count, section_of}
use Rattle.schedule_texts.specs.ProblemText.{columns, titled}

-- the counts of the problem that shares are of, and the rows after them
unfoldable pub sizes_of : ℕ → ℕ → ℕ → ℕ → List Row → Result (List Row) Fault
sizes_of blocks periods destinations count rows = do
  second ← same_count count words.Blocks blocks rows
  third ← same_count count words.Periods periods second
  fourth ← same_count count words.Destinations destinations third
  Ok fourth

-- shares one after the other: block, period, destination, and the share in millionths
unfoldable pub shares_of_rows : ℕ → ℕ → ℕ → ℕ → List Row → Result (List ℤ) Fault
shares_of_rows blocks periods destinations count rows = do
  first ← titled count words.Schedule rows
  sized ← sizes_of blocks periods destinations count first
  number ← count_of count words.Shares sized
  shares ← section_of count words.Share (columns 4 3) number.0 number.1
  end ← no_row_left shares.1
  Ok shares.0

-- the shares that a text spells for a number of blocks, periods and destinations, or its first fault
abbrev pub shares_in : ℕ → ℕ → ℕ → List ℕ → Result (List ℤ) Fault
shares_in blocks periods destinations text = shares_of_rows blocks periods destinations (count_of_lines text) (rows_of text)

-- the prices of each limit in each period. The counts before them are those of their problem
unfoldable pub prices_of_rows : ℕ → ℕ → ℕ → List Row → Result (List ℤ) Fault
prices_of_rows limits periods count rows = do
  first ← titled count words.Prices rows
  second ← same_count count words.Limits limits first
  third ← same_count count words.Periods periods second
  prices ← section_of count words.Price (columns periods 0) limits third
  end ← no_row_left prices.1
  Ok prices.0

-- the prices that a text spells for a number of limits and periods, or its first fault
abbrev pub prices_in : ℕ → ℕ → List ℕ → Result (List ℤ) Fault
prices_in limits periods text = prices_of_rows limits periods (count_of_lines text) (rows_of text)
