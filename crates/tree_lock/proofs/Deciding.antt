-- One more entry keeps the law of the published journal.
use Rattle.std.proofs.Common.{◌≡◌, ℕ, refl, sym, ap, ◌∙◌, subst, List, [], ◌∷◌, ◌++◌, Option}
use Rattle.pit_model.specs.declared.journal.Entry.{Entry}
use Rattle.pit_model.specs.Mine.{Instance}
use Rattle.pit_model.specs.Tree.{opening}
use Rattle.pit_model.specs.Journal.{lawful_verdict, count_after, IsLawful, replay}
use Rattle.pit_model.specs.Version.{version_tree, arcs_after, applied_arcs, IsVersion}
use Rattle.pit_model.proofs.Journals.{lawful-snoc, applied_count-snoc}
use Rattle.pit_model.proofs.Versions.{applied_arcs-snoc, journal_gives_version}
use Rattle.tree_lock.specs.PublishedJournal.{JournalInvariant}

-- the published tree is the replay of the journal
pub published_is_replay :
    (mine : Instance) (published : List ℕ) (journal : List Entry) (budget : Option ℕ) → IsLawful mine budget journal → published ≡ applied_arcs journal
    → version_tree mine published ≡ replay mine journal
published_is_replay mine published journal budget lawful followed =
    ap (version_tree mine) followed ∙ sym (journal_gives_version mine budget journal lawful).gives

-- and each published arc was a merger arc at its turn
pub published_is_version :
    (mine : Instance) (published : List ℕ) (journal : List Entry) (budget : Option ℕ) → IsLawful mine budget journal → published ≡ applied_arcs journal
    → IsVersion mine (version_tree mine published) published
published_is_version mine published journal budget lawful followed =
    subst (λ (arcs : List ℕ). IsVersion mine (version_tree mine arcs) arcs) (sym followed)
    (record { mergers = (journal_gives_version mine budget journal lawful).mergers; gives = refl })

pub journal_after :
    (mine : Instance) (published : List ℕ) (journal : List Entry) (budget : Option ℕ) (applied : ℕ) (entry : Entry) → JournalInvariant mine published journal budget applied
    → entry.verdict ≡ lawful_verdict mine budget (version_tree mine published) applied entry.arc
    → JournalInvariant mine (arcs_after published entry) (journal ++ entry ∷ []) budget (count_after applied entry)
journal_after mine published journal budget applied entry published_journal is =
    let tree = published_is_replay mine published journal budget published_journal.lawful published_journal.followed in record {
      lawful = lawful-snoc mine budget journal entry (opening mine) 0 published_journal.lawful (is ∙ (λ i. lawful_verdict mine budget (tree i) (published_journal.counted i) entry.arc));
      followed = ap (λ l. arcs_after l entry) published_journal.followed ∙ sym (applied_arcs-snoc journal entry);
      counted = ap (λ n. count_after n entry) published_journal.counted ∙ sym (applied_count-snoc journal entry);
    }
