-- The precedence file: the checks of each line in their order, and the reading of all lines by them.
use Rattle.std.specs.Prelude.{ℕ, ◌+◌, not, nat_lt, nat_le, ◌==◌, ◌&&◌, List, [], ◌∷◌, ◌++◌, length, map, Result, Ok}
use Rattle.pit_model.specs.Fixed.{is_among}
use Rattle.pit_model.specs.Size.{most_pairs}
use Rattle.faults.specs.declared.fault.Fault.{Fault}
use Rattle.faults.specs.declared.refusal.Refusal.{Refusal}
use Rattle.faults.specs.declared.refusal.Refusal.TheVariants.{OverLimit, NotWhole, IdOutOfPlace, PredecessorOutOfRange, NeedsItself, PredecessorTwice, WrongFieldCount}
use Rattle.faults.specs.declared.source.Source.TheVariants.{Precedence}
use Rattle.minelib_reader.specs.Checks.{◌>>=◌, ok_if}
use Rattle.std.specs.Option.{ok_or}
use Rattle.faults.specs.Refused.{at_line}
use Rattle.minelib_reader.specs.Text.{Row, rows_of, two_and_more}
use Rattle.minelib_reader.specs.Number.{whole_of}

abbrev pub in_precedence : Refusal → ℕ → Fault
in_precedence refusal line = at_line Precedence refusal line

-- one predecessor of block id, behind those that were seen on its line
unfoldable pub need_of : ℕ → ℕ → ℕ → List ℕ → List ℕ → Result ℕ Fault
need_of n id line seen field = do
  p ← ok_or (whole_of field) (in_precedence NotWhole line)
  below ← ok_if (nat_lt p n) (in_precedence PredecessorOutOfRange line)
  other ← ok_if (not (p == id)) (in_precedence NeedsItself line)
  new ← ok_if (not (is_among seen p)) (in_precedence PredecessorTwice line)
  Ok p

-- the predecessors of block id, from left to right
unfoldable pub needs_from : ℕ → ℕ → ℕ → List ℕ → List (List ℕ) → Result (List ℕ) Fault
needs_from n id line seen [] = Ok []
needs_from n id line seen (field ∷ fields) = do
  p ← need_of n id line seen field
  others ← needs_from n id line (seen ++ p ∷ []) fields
  Ok (p ∷ others)

-- the front of a line: its id, the number of its predecessors, and the fields that name them; from is the least id that
-- the line may have, and total the sum of the numbers on the lines before
unfoldable pub front_of : ℕ → ℕ → ℕ → Row → Result (ℕ × ℕ × List (List ℕ)) Fault
front_of n from total r = do
  parts ← ok_or (two_and_more r.fields) (in_precedence WrongFieldCount r.line)
  id ← ok_or (whole_of parts.0) (in_precedence NotWhole r.line)
  in_place ← ok_if (nat_lt id n && nat_le from id) (in_precedence IdOutOfPlace r.line)
  count ← ok_or (whole_of parts.1) (in_precedence NotWhole r.line)
  named ← ok_if (length parts.2 == count) (in_precedence WrongFieldCount r.line)
  few ← ok_if (nat_le (total + count) most_pairs) (in_precedence OverLimit r.line)
  Ok (id, count, parts.2)

-- the block of a line, and its predecessors
unfoldable pub needs_line : ℕ → ℕ → ℕ → Row → Result (ℕ × List ℕ) Fault
needs_line n from total r = do
  front ← front_of n from total r
  needs ← needs_from n front.0 r.line [] front.2
  Ok (front.0, needs)

-- the pairs of a block with each block that it needs
abbrev pub pairs_of_line : ℕ → List ℕ → List (ℕ × ℕ)
pairs_of_line id needs = map (λ p. (id, p)) needs

-- the pairs of all lines
unfoldable pub pairs_from : ℕ → ℕ → ℕ → List Row → Result (List (ℕ × ℕ)) Fault
pairs_from n from total [] = Ok []
pairs_from n from total (r ∷ rows) = do
  line ← needs_line n from total r
  others ← pairs_from n (line.0 + 1) (total + length line.1) rows
  Ok (pairs_of_line line.0 line.1 ++ others)

-- the pairs that a text spells for n blocks, or its first fault
abbrev pub prec_of : ℕ → List ℕ → Result (List (ℕ × ℕ)) Fault
prec_of n text = pairs_from n 0 0 (rows_of text)
