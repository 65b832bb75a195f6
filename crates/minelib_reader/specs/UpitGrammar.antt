-- The grammar of an optimisation model, by cases on the lines with fields.
use Rattle.std.specs.Prelude.{◌≡◌, ℕ, ℤ, ◌+◌, ◌≤◌, List, [], ◌∷◌, length, Some, codes}
use Rattle.minelib_reader.specs.Text.{Row, rows_of}
use Rattle.minelib_reader.specs.Number.{whole_of, decimal_of}
use Rattle.pit_model.specs.Size.{most_blocks}
use Rattle.minelib_reader.specs.Upit.{Upit}

-- the line of block i with this value
pub record SpellsValue (i : ℕ) (r : Row) (value : ℤ) : Type 0 where
  pub id : List ℕ
  pub text : List ℕ
  pub fields : r.fields ≡ id ∷ text ∷ []
  pub is_id : whole_of id ≡ Some i
  pub is_value : decimal_of text ≡ Some value

-- the lines of the blocks from i on, in order
abbrev pub SpellsValues : ℕ → List Row → List ℤ → Type 0
SpellsValues i [] [] = Unit {0}
SpellsValues i [] (v ∷ vs) = ⊥
SpellsValues i (r ∷ rows) [] = ⊥
SpellsValues i (r ∷ rows) (v ∷ vs) = SpellsValue i r v × SpellsValues (i + 1) rows vs

-- the four lines before them
pub record SpellsHeader (a b c d : Row) (n : ℕ) : Type 0 where
  pub others : List (List ℕ)
  pub name : a.fields ≡ codes "NAME:" ∷ others
  pub kind : b.fields ≡ codes "TYPE:" ∷ codes "UPIT" ∷ []
  pub number : List ℕ
  pub blocks : c.fields ≡ codes "NBLOCKS:" ∷ number ∷ []
  pub is_number : whole_of number ≡ Some n
  pub few : n ≤ most_blocks
  pub objective : d.fields ≡ codes "OBJECTIVE_FUNCTION:" ∷ []

abbrev pub SpellsRows : List Row → Upit → Type 0
SpellsRows (a ∷ b ∷ c ∷ d ∷ rows) m = SpellsHeader a b c d m.n × (length m.values ≡ m.n) × SpellsValues 0 rows m.values
SpellsRows rows m = ⊥

-- the text spells this model
abbrev pub SpellsUpit : List ℕ → Upit → Type 0
SpellsUpit text m = SpellsRows (rows_of text) m
