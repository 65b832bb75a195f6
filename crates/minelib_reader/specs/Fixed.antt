-- The file of fixed blocks: the checks of each line in their order, and the reading of all lines by them.
use Rattle.std.specs.Prelude.{ℕ, ◌+◌, Bool, true, false, nat_lt, nat_le, ◌&&◌, if◌then◌else◌, List, [], ◌∷◌, Option, Some, None, Result, Ok, codes}
use Rattle.std.specs.Str.{bytes_eq}
use Rattle.std.specs.Option.{ok_or}
use Rattle.pit_model.specs.Fixed.{FixedLists}
use Rattle.faults.specs.declared.fault.Fault.{Fault}
use Rattle.faults.specs.declared.refusal.Refusal.{Refusal}
use Rattle.faults.specs.declared.refusal.Refusal.TheVariants.{WrongHeader, NotWhole, IdOutOfPlace, WrongFieldCount}
use Rattle.faults.specs.declared.source.Source.TheVariants.{Fixed}
use Rattle.faults.specs.Refused.{at_line}
use Rattle.minelib_reader.specs.Checks.{◌>>=◌, ok_if}
use Rattle.minelib_reader.specs.Text.{Row, rows_of, two_of}
use Rattle.minelib_reader.specs.Number.{whole_of}

abbrev pub in_fixed : Refusal → ℕ → Fault
in_fixed refusal line = at_line Fixed refusal line

-- the word that forces a block in, or the one that bars it
abbrev pub fixing_word : Bool → List ℕ
fixing_word true = codes "in"
fixing_word false = codes "out"

-- whether a word forces a block in; nothing where it does neither
unfoldable pub is_forced_by : List ℕ → Option Bool
is_forced_by word = if bytes_eq word (codes "in") then Some true else (if bytes_eq word (codes "out") then Some false else None)

-- whether the block of a line is forced in, and the block; from is the least id that the line may have
unfoldable pub fixed_line : ℕ → ℕ → Row → Result (Bool × ℕ) Fault
fixed_line n from r = do
  pair ← ok_or (two_of r.fields) (in_fixed WrongFieldCount r.line)
  is_forced ← ok_or (is_forced_by pair.0) (in_fixed WrongHeader r.line)
  id ← ok_or (whole_of pair.1) (in_fixed NotWhole r.line)
  in_place ← ok_if (nat_lt id n && nat_le from id) (in_fixed IdOutOfPlace r.line)
  Ok (is_forced, id)

abbrev pub fixed_lists : List ℕ → List ℕ → FixedLists
fixed_lists forced barred = record { forced = forced; barred = barred }

-- the lists with a block more at the front of one of them
abbrev pub with_block : Bool → ℕ → FixedLists → FixedLists
with_block true id lists = fixed_lists (id ∷ lists.forced) lists.barred
with_block false id lists = fixed_lists lists.forced (id ∷ lists.barred)

-- the blocks of all lines
unfoldable pub fixed_from : ℕ → ℕ → List Row → Result FixedLists Fault
fixed_from n from [] = Ok (fixed_lists [] [])
fixed_from n from (r ∷ rows) = do
  line ← fixed_line n from r
  others ← fixed_from n (line.1 + 1) rows
  Ok (with_block line.0 line.1 others)

-- the fixed blocks of n that a text spells, or its first fault
abbrev pub fixed_blocks_of : ℕ → List ℕ → Result FixedLists Fault
fixed_blocks_of n text = fixed_from n 0 (rows_of text)
