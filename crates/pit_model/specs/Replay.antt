-- How the replay of a journal by one thread ends (flat combining: Hendler, Incze, Shavit and Tzafrir 2010).
use Rattle.std.specs.Prelude.{◌≡◌, ℕ, suc, false, List, Option, Some, take}
use Rattle.pit_model.specs.declared.journal.Entry.{Entry}
use Rattle.pit_model.specs.Mine.{Instance}
use Rattle.pit_model.specs.Journal.{is_used_up, applied_count, IsLawful, replay}
use Rattle.pit_model.specs.FirstRun.{HasMerger, HasNoMerger}

-- the first entry without its lawful verdict, counted from 1: the entries before it are lawful, and with it they are not
pub record DiffersAt (mine : Instance) (budget : Option ℕ) (journal : List Entry) (k : ℕ) : Type 0 where
  pub before : ℕ
  pub next : k ≡ suc before
  pub lawful : IsLawful mine budget (take before journal)
  pub differs : IsLawful mine budget (take k journal) → ⊥

-- each verdict is lawful, and no merger arc is left
pub record IsComplete (mine : Instance) (budget : Option ℕ) (journal : List Entry) : Type 0 where
  pub lawful : IsLawful mine budget journal
  pub none_left : HasNoMerger mine (replay mine journal)

-- each verdict is lawful, a merger arc is left, and as many mergers were made as the budget allows
pub record IsSpentAt (mine : Instance) (budget : Option ℕ) (journal : List Entry) (count : ℕ) : Type 0 where
  pub lawful : IsLawful mine budget journal
  pub left : HasMerger mine (replay mine journal)
  pub allowed : budget ≡ Some count
  pub made : applied_count journal ≡ count

-- each verdict is lawful, a merger arc is left after so many mergers, and the budget allows another
pub record IsOpenAt (mine : Instance) (budget : Option ℕ) (journal : List Entry) (count : ℕ) : Type 0 where
  pub lawful : IsLawful mine budget journal
  pub left : HasMerger mine (replay mine journal)
  pub allowed : is_used_up budget count ≡ false
  pub made : applied_count journal ≡ count
