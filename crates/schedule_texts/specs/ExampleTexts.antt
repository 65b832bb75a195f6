-- The example of the formats: the texts of two blocks in two periods, and what they spell; and texts at fault. A definition with a word, a
-- place or a count changed makes one of these false.
use Rattle.std.specs.Prelude.{◌≡◌, ℕ, ℤ, pos, neg_ℤ, List, [], ◌∷◌, ◌++◌, Ok, Err, codes}
use Rattle.faults.specs.declared.refusal.Refusal.TheVariants.{AfterEnd, CountsDiffer, EndsEarly, IdOutOfPlace, NotDecimal, NotWhole, WrongFieldCount, WrongHeader}
use Rattle.schedule_texts.specs.Section.{in_text}
use Rattle.schedule_texts.specs.ProblemText.{Lists, lists_in}
use Rattle.schedule_texts.specs.ScheduleText.{prices_in, shares_in}

abbrev pub problem_example : List ℕ
problem_example = codes "PROBLEM 2\nBLOCKS 2\nPERIODS 2\nDESTINATIONS 3\nCOLUMNS 3\nLIMITS 2\nVALUES 3\nUSES 5\nDISCOUNTS 1 0.5\nCAPACITIES 1 1\nCAPACITIES 1 2\nVALUE 0 1 0\nVALUE 1 2 0\nVALUE 2 1 1\nUSE 0 0 0 0\nUSE 1 0 0 0\nUSE 2 0 0 0\nUSE 0 1 0 0\nUSE 2 1 0 1\nAMOUNTS 0 1 -5 -2\nAMOUNTS 1 1 10 -2\n"

abbrev pub schedule_example : List ℕ
schedule_example = codes "SCHEDULE 2\nBLOCKS 2\nPERIODS 2\nDESTINATIONS 3\nSHARES 4\nSHARE 0 0 1 0.5\nSHARE 1 0 0 0.5\nSHARE 0 1 2 0.5\nSHARE 1 1 0 0.5\n"

abbrev pub prices_example : List ℕ
prices_example = codes "PRICES 2\nLIMITS 2\nPERIODS 2\nPRICE 1.5 0\nPRICE 0 0\n"

-- what the text of the problem spells, in millionths
abbrev pub example_lists : Lists
example_lists = record {
  sizes = record { blocks = 2; periods = 2; destinations = 3; columns = 3; limits = 2; values = 3; uses = 5 };
  discounts = pos 1000000 ∷ pos 500000 ∷ [];
  capacities = pos 1000000 ∷ pos 1000000 ∷ pos 1000000 ∷ pos 2000000 ∷ [];
  values = pos 0 ∷ pos 1 ∷ pos 0 ∷ pos 1 ∷ pos 2 ∷ pos 0 ∷ pos 2 ∷ pos 1 ∷ pos 1 ∷ [];
  uses =
      pos 0 ∷ pos 0 ∷ pos 0 ∷ pos 0 ∷ pos 1 ∷ pos 0 ∷ pos 0 ∷ pos 0 ∷ pos 2 ∷ pos 0 ∷ pos 0 ∷ pos 0 ∷ pos 0 ∷ pos 1 ∷ pos 0 ∷ pos 0
      ∷ pos 2 ∷ pos 1 ∷ pos 0 ∷ pos 1 ∷ [];
  amounts = pos 1000000 ∷ neg_ℤ (pos 5000000) ∷ neg_ℤ (pos 2000000) ∷ pos 1000000 ∷ pos 10000000 ∷ neg_ℤ (pos 2000000) ∷ [];
}

-- block, period, destination and share
abbrev pub example_shares : List ℤ
example_shares =
    pos 0 ∷ pos 0 ∷ pos 1 ∷ pos 500000 ∷ pos 1 ∷ pos 0 ∷ pos 0 ∷ pos 500000 ∷ pos 0 ∷ pos 1 ∷ pos 2 ∷ pos 500000 ∷ pos 1 ∷ pos 1 ∷ pos 0
    ∷ pos 500000 ∷ []

-- the texts spell these lists, these shares and prices; those of another mine are refused by their line
pub record TextsOfTwoBlocks : Type 0 where
  pub problem : lists_in problem_example ≡ Ok example_lists
  pub schedule : shares_in 2 2 3 schedule_example ≡ Ok example_shares
  pub prices : prices_in 2 2 prices_example ≡ Ok (pos 1500000 ∷ pos 0 ∷ pos 0 ∷ pos 0 ∷ [])
  pub of_more_blocks : shares_in 3 2 3 schedule_example ≡ Err (in_text CountsDiffer 2)
  pub of_more_periods : shares_in 2 3 3 schedule_example ≡ Err (in_text CountsDiffer 3)
  pub of_more_limits : prices_in 3 2 prices_example ≡ Err (in_text CountsDiffer 2)
  pub shifted :
      lists_in (codes "PROBLEM 2\nBLOCKS 2\nPERIODS 1\nDESTINATIONS 1\nCOLUMNS 0\nLIMITS 0\nVALUES 0\nUSES 0\nDISCOUNTS 1\nAMOUNTS 0\nAMOUNTS 2\n")
      ≡ Err (in_text IdOutOfPlace 11)

-- a schedule of two blocks, whose lines from the fifth on are these
abbrev pub with_lines : List ℕ → List ℕ
with_lines lines = codes "SCHEDULE 2\nBLOCKS 2\nPERIODS 2\nDESTINATIONS 3\n" ++ lines

pub record TextsAtFault : Type 0 where
  pub lawful : shares_in 2 2 3 (with_lines (codes "SHARES 1\nSHARE 1 0 2 0.5\n")) ≡ Ok (pos 1 ∷ pos 0 ∷ pos 2 ∷ pos 500000 ∷ [])
  pub other_word : shares_in 2 2 3 (with_lines (codes "SHARES 1\nPRICE 1 0 2 0.5\n")) ≡ Err (in_text WrongHeader 6)
  pub wider : shares_in 2 2 3 (with_lines (codes "SHARES 1\nSHARE 1 0 2 0.5 0\n")) ≡ Err (in_text WrongFieldCount 6)
  pub no_whole : shares_in 2 2 3 (with_lines (codes "SHARES 1\nSHARE 1 0 2.0 0.5\n")) ≡ Err (in_text NotWhole 6)
  pub no_decimal : shares_in 2 2 3 (with_lines (codes "SHARES 1\nSHARE 1 0 2 half\n")) ≡ Err (in_text NotDecimal 6)
  pub ends : shares_in 2 2 3 (with_lines (codes "SHARES 1\n")) ≡ Err (in_text EndsEarly 6)
  pub goes_on : shares_in 2 2 3 (with_lines (codes "SHARES 0\nSHARE 1 0 2 0.5\n")) ≡ Err (in_text AfterEnd 6)
