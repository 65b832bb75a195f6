-- The text of a journal: its head, and a line for each entry.
use Rattle.std.specs.Prelude.{ℕ, ◌<◌, ◌≤◌, List, ◌++◌, length, Option, None, Some, codes, decimal}
use Rattle.std.specs.List.{flat_map, All}
use Rattle.pit_model.specs.declared.journal.Entry.{Entry}
use Rattle.pit_model.specs.declared.journal.Verdict.{Verdict}
use Rattle.pit_model.specs.declared.journal.Verdict.TheVariants.{Applied, Stale, Spent}

-- the number that stands for a verdict
abbrev pub verdict_number : Verdict → ℕ
verdict_number Applied = 1
verdict_number Stale = 2
verdict_number Spent = 3

abbrev pub budget_text : Option ℕ → List ℕ
budget_text None = codes "none"
budget_text (Some budget) = decimal budget

unfoldable pub journal_head : ℕ → ℕ → Option ℕ → ℕ → List ℕ
journal_head n m budget count =
    codes "PITJOURNAL 1\nBLOCKS: " ++ decimal n ++ codes "\nARCS: " ++ decimal m ++ codes "\nBUDGET: " ++ budget_text budget
    ++ codes "\nENTRIES: " ++ decimal count ++ codes "\n"

-- the seat, the arc, and the number of the verdict
unfoldable pub entry_line : Entry → List ℕ
entry_line entry = decimal entry.seat ++ codes " " ++ decimal entry.arc ++ codes " " ++ decimal (verdict_number entry.verdict) ++ codes "\n"

abbrev pub journal_text : ℕ → ℕ → Option ℕ → List Entry → List ℕ
journal_text n m budget entries = journal_head n m budget (length entries) ++ flat_map entry_line entries

-- the greatest seat
abbrev pub most_seat : ℕ
most_seat = 64

-- under seats that there may be, with arcs below m
abbrev pub AreSeatedBelow : ℕ → List Entry → Type 0
AreSeatedBelow m entries = All (λ entry. (entry.seat ≤ most_seat) × (entry.arc < m)) entries
