-- What a solve by workers at one tree gives.
use Rattle.std.specs.Prelude.{◌≡◌, ◌⊎◌, ℕ, Bool, true, false, List, Option, Some, None, IsTrue}
use Rattle.pit_model.specs.declared.journal.Entry.{Entry}
use Rattle.pit_model.specs.declared.journal.Verdict.{Verdict}
use Rattle.pit_model.specs.declared.journal.Verdict.TheVariants.{Applied, Spent}
use Rattle.pit_model.specs.Mine.{Instance}
use Rattle.pit_model.specs.Journal.{is_used_up, applied_count, IsLawful, AreSeated, replay}
use Rattle.pit_model.specs.FirstRun.{HasMerger, HasNoMerger, IsFirstMerger}
use Rattle.optimality.specs.Certificate.{IsCertificateOf}
use Rattle.tree_lock.specs.HolderState.{HolderState, Decides}
use Rattle.merging.specs.declared.outcome.Outcome.{Outcome}
use Rattle.merging.specs.declared.outcome.Outcome.TheVariants.{Pit, Exhausted}

-- the replay of a journal has no merger arc left, and this is the pit; or exactly the budget's mergers were made, and one is left
abbrev pub EndsBy : Instance → Option ℕ → List Entry → Outcome → Type 0
EndsBy mine budget journal (Pit certificate) = IsCertificateOf mine certificate × HasNoMerger mine (replay mine journal)
EndsBy mine budget journal (Exhausted count) = (budget ≡ Some count) × (applied_count journal ≡ count) × HasMerger mine (replay mine journal)

-- workers at one tree: the journal is lawful, under their seats and the driver's, and the solve ends by it
pub record IsSolvedTogether (mine : Instance) (workers : ℕ) (budget : Option ℕ) (outcome : Outcome) (journal : List Entry) : Type 0 where
  pub lawful : IsLawful mine budget journal
  pub seated : AreSeated mine workers journal
  pub ends : EndsBy mine budget journal outcome

-- nothing more is to be done: no merger arc is left, or the budget is used up
abbrev pub IsEnded : HolderState → Type 0
IsEnded held = HasNoMerger held.mine held.tree ⊎ IsTrue (is_used_up held.budget (applied_count held.journal))

-- the first merger arc was decided for the driver; or there was none, and nothing changed
abbrev pub DecidesFirst : HolderState → HolderState → Option Verdict → Type 0
DecidesFirst old new None = HasNoMerger old.mine old.tree × (new ≡ old)
DecidesFirst old new (Some verdict) = (arc : ℕ) × IsFirstMerger old.mine old.tree (Some arc) × Decides arc old new verdict

-- how a round ends, from the holder that the workers met: the driver found no merger arc or no budget for it, and nothing more is to be
-- done; or it merged over the first one
abbrev pub RoundEnds : HolderState → HolderState → Bool → Type 0
RoundEnds met after true = IsEnded after × (DecidesFirst met after None ⊎ DecidesFirst met after (Some Spent))
RoundEnds met after false = DecidesFirst met after (Some Applied)
