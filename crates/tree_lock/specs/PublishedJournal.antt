-- The contents of a published journal of an instance: the journal of what was decided, the budget of mergers, and the arcs of the mergers that
-- are published, whose tree readers see.
use Rattle.std.specs.Prelude.{◌≡◌, ℕ, [], ◌∷◌, ◌++◌, List, Option}
use Rattle.pit_model.specs.declared.journal.Verdict.{Verdict}
use Rattle.pit_model.specs.declared.journal.Entry.{Entry}
use Rattle.pit_model.specs.Mine.{Instance}
use Rattle.pit_model.specs.Journal.{lawful_verdict, applied_count, IsLawful}
use Rattle.pit_model.specs.Version.{version_tree, arcs_after, applied_arcs}

pub record JournalContents : Type 0 where
  pub journal : List Entry
  pub budget : Option ℕ
  pub published : List ℕ

abbrev pub journal_contents : List Entry → Option ℕ → List ℕ → JournalContents
journal_contents journal budget published = record { journal = journal; budget = budget; published = published }

-- the entry of an arc that was decided for a seat
abbrev pub entry_of : ℕ → ℕ → Verdict → Entry
entry_of seat arc verdict = record { seat = seat; arc = arc; verdict = verdict }

-- what is to be decided of an arc, at the tree of the published mergers
abbrev pub verdict_for : Instance → JournalContents → ℕ → Verdict
verdict_for mine now arc = lawful_verdict mine now.budget (version_tree mine now.published) (applied_count now.journal) arc

-- after one more entry; an applied arc is published
abbrev pub with_journal_entry : JournalContents → Entry → JournalContents
with_journal_entry before entry = journal_contents (before.journal ++ entry ∷ []) before.budget (arcs_after before.published entry)

-- an arc was decided for a seat, as is lawful
abbrev pub DecidesIn : Instance → ℕ → ℕ → JournalContents → JournalContents → Verdict → Type 0
DecidesIn mine seat arc old new verdict = (verdict ≡ verdict_for mine old arc) × (new ≡ with_journal_entry old (entry_of seat arc verdict))

-- the journal is lawful, its applied arcs are published, and its mergers are counted
pub record JournalInvariant (mine : Instance) (published : List ℕ) (journal : List Entry) (budget : Option ℕ) (applied : ℕ) : Type 0 where
  pub lawful : IsLawful mine budget journal
  pub followed : published ≡ applied_arcs journal
  pub counted : applied ≡ applied_count journal
