-- The grammar of a pit's text, by its lines with fields.
use Rattle.std.specs.Prelude.{◌≡◌, ◌↔◌, ℕ, ◌^◌, ◌<◌, ◌≤◌, ℤ, unsigned_abs, List, [], ◌∷◌, length, Some, codes}
use Rattle.std.specs.List.{All}
use Rattle.pit_model.specs.Size.{most_blocks}
use Rattle.pit_model.specs.PitText.{pit_text}
use Rattle.minelib_reader.specs.Text.{Row, rows_of}
use Rattle.minelib_reader.specs.Number.{whole_of}
use Rattle.report.specs.HeadLines.{SpellsNumber}
use Rattle.report.specs.PrintedNumbers.{units_of}

-- how many blocks the mine has, the blocks of the pit, and its value in millionths
pub record PitAnswer : Type 0 where
  pub blocks : ℕ
  pub pit : List ℕ
  pub worth : ℤ

abbrev pub pit_answer : ℕ → List ℕ → ℤ → PitAnswer
pit_answer n pit worth = record { blocks = n; pit = pit; worth = worth }

-- the line of a block of the pit
pub record SpellsMember (r : Row) (id : ℕ) : Type 0 where
  pub field : List ℕ
  pub fields : r.fields ≡ field ∷ []
  pub is_id : whole_of field ≡ Some id

abbrev pub SpellsMembers : List Row → List ℕ → Type 0
SpellsMembers [] [] = Unit {0}
SpellsMembers [] (id ∷ ids) = ⊥
SpellsMembers (r ∷ rows) [] = ⊥
SpellsMembers (r ∷ rows) (id ∷ ids) = SpellsMember r id × SpellsMembers rows ids

-- this word, and a number of millionths with six decimals
pub record SpellsMillionths (word : List ℕ) (number : ℤ) (r : Row) : Type 0 where
  pub field : List ℕ
  pub fields : r.fields ≡ word ∷ field ∷ []
  pub is_number : units_of 6 field ≡ Some number

pub record SpellsPitRows (rows : List Row) (a : PitAnswer) : Type 0 where
  pub title : Row
  pub blocks : Row
  pub count : Row
  pub worth : Row
  pub members : List Row
  pub are : rows ≡ title ∷ blocks ∷ count ∷ worth ∷ members
  pub is_title : title.fields ≡ codes "PIT" ∷ []
  pub names_blocks : SpellsNumber (codes "BLOCKS:") a.blocks blocks
  pub names_count : SpellsNumber (codes "IN:") (length a.pit) count
  pub names_worth : SpellsMillionths (codes "WORTH:") a.worth worth
  pub spelled : SpellsMembers members a.pit

abbrev pub SpellsPit : List ℕ → PitAnswer → Type 0
SpellsPit text a = SpellsPitRows (rows_of text) a

-- the law: the text of a pit is read as that pit with its value, and as no other
abbrev pub PitReadsBack : Type 0
PitReadsBack =
    (n : ℕ) (pit : List ℕ) (worth : ℤ) (a : PitAnswer)
    → n ≤ most_blocks → length pit ≤ most_blocks → All (λ u. u < n) pit → unsigned_abs worth < 10 ^ 64
    → SpellsPit (pit_text n pit worth) a ↔ (a ≡ pit_answer n pit worth)
