-- The grammar of a journal's text, by its lines with fields.
use Rattle.std.specs.Prelude.{◌≡◌, ◌↔◌, ℕ, ◌^◌, ◌<◌, ◌≤◌, List, [], ◌∷◌, length, Option, Some, None, codes}
use Rattle.pit_model.specs.Size.{most_blocks, most_pairs}
use Rattle.minelib_reader.specs.Text.{Row, rows_of}
use Rattle.minelib_reader.specs.Number.{whole_of, digits_of}
use Rattle.pit_model.specs.declared.journal.Entry.{Entry}
use Rattle.pit_model.specs.Graph.{Graph}
use Rattle.pit_model.specs.JournalText.{AreSeatedBelow, journal_text, most_seat, verdict_number}
use Rattle.report.specs.HeadLines.{SpellsNumber}
use Rattle.report.specs.JournalLines.{BudgetAndEntries, budget_and_entries}

-- a field of this number, which has 64 bits
abbrev pub SpellsWide : List ℕ → ℕ → Type 0
SpellsWide field number = (digits_of 20 field ≡ Some number) × (number < 2 ^ 64)

-- a field of this budget
abbrev pub SpellsBudget : List ℕ → Option ℕ → Type 0
SpellsBudget field None = field ≡ codes "none"
SpellsBudget field (Some budget) = SpellsWide field budget

-- the line of an entry, in a graph of m arcs
pub record SpellsEntry (m : ℕ) (r : Row) (entry : Entry) : Type 0 where
  pub seat : List ℕ
  pub arc : List ℕ
  pub verdict : List ℕ
  pub fields : r.fields ≡ seat ∷ arc ∷ verdict ∷ []
  pub is_seat : whole_of seat ≡ Some entry.seat
  pub seated : entry.seat ≤ most_seat
  pub is_arc : whole_of arc ≡ Some entry.arc
  pub known : entry.arc < m
  pub is_verdict : whole_of verdict ≡ Some (verdict_number entry.verdict)

-- the lines of entries
abbrev pub SpellsEntries : ℕ → List Row → List Entry → Type 0
SpellsEntries m [] [] = Unit {0}
SpellsEntries m [] (entry ∷ entries) = ⊥
SpellsEntries m (r ∷ rows) [] = ⊥
SpellsEntries m (r ∷ rows) (entry ∷ entries) = SpellsEntry m r entry × SpellsEntries m rows entries

-- the lines of a journal of the graph
pub record SpellsJournalRows (graph : Graph) (rows : List Row) (j : BudgetAndEntries) : Type 0 where
  pub title : Row
  pub blocks : Row
  pub arcs : Row
  pub budget : Row
  pub count : Row
  pub decisions : List Row
  pub are : rows ≡ title ∷ blocks ∷ arcs ∷ budget ∷ count ∷ decisions
  pub is_title : title.fields ≡ codes "PITJOURNAL" ∷ codes "1" ∷ []
  pub names_blocks : SpellsNumber (codes "BLOCKS:") graph.blocks blocks
  pub names_arcs : SpellsNumber (codes "ARCS:") (length graph.pairs) arcs
  pub budget_field : List ℕ
  pub names_budget : budget.fields ≡ codes "BUDGET:" ∷ budget_field ∷ []
  pub is_budget : SpellsBudget budget_field j.budget
  pub count_field : List ℕ
  pub names_count : count.fields ≡ codes "ENTRIES:" ∷ count_field ∷ []
  pub is_count : SpellsWide count_field (length j.entries)
  pub entries : SpellsEntries (length graph.pairs) decisions j.entries

-- the text spells this journal of the graph
abbrev pub SpellsJournal : Graph → List ℕ → BudgetAndEntries → Type 0
SpellsJournal graph text j = SpellsJournalRows graph (rows_of text) j

-- a budget that has 64 bits, if there is one
abbrev pub IsBudget : Option ℕ → Type 0
IsBudget None = Unit {0}
IsBudget (Some budget) = budget < 2 ^ 64

-- the law: the text of a journal is read as that journal, and as no other
abbrev pub JournalReadsBack : Type 0
JournalReadsBack =
    (graph : Graph) (budget : Option ℕ) (entries : List Entry) (j : BudgetAndEntries)
    → graph.blocks ≤ most_blocks → length graph.pairs ≤ most_pairs → IsBudget budget → length entries < 2 ^ 64 → AreSeatedBelow (length graph.pairs) entries
    → SpellsJournal graph (journal_text graph.blocks (length graph.pairs) budget entries) j ↔ (j ≡ budget_and_entries budget entries)
