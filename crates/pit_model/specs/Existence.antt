-- What there is one of at least: a pit, and an end of all mergers. With Uniqueness each answer is the one that there is.
use Rattle.std.specs.Prelude.{ℕ, suc, ℤ, pos, ◌+ℤ◌, ◌*ℤ◌, ◌≤ℤ◌, Bool, List, Some}
use Rattle.pit_model.specs.declared.direction.Direction.{Direction}
use Rattle.pit_model.specs.declared.journal.Entry.{Entry}
use Rattle.pit_model.specs.Pit.{Fixed, IsPit}
use Rattle.pit_model.specs.Mine.{Instance, IsSimple}
use Rattle.pit_model.specs.Fixed.{IsClashFree, IsClosure, IsRestOf}
use Rattle.pit_model.specs.Rank.{positive_worth}
use Rattle.pit_model.specs.FirstRun.{HasNoMerger, first_run}
use Rattle.pit_model.specs.Replay.{IsSpentAt}

-- the law: toward each direction a mine has a pit, unless its fixed blocks clash
abbrev pub PitExists : Type 0
PitExists =
    (direction : Direction) (mine : Instance) (fixed : Fixed) (rest : Instance) → IsRestOf mine fixed rest → IsSimple rest
    → ((dug : ℕ → Bool) → IsClosure mine.pairs fixed.forced dug → IsClashFree fixed dug)
    → (set : ℕ → Bool) × IsPit direction mine fixed set

-- as many mergers as any run can make: P * (n + 1) + n, P the sum of the positive values
abbrev pub most_mergers : Instance → ℤ
most_mergers mine = positive_worth mine *ℤ pos (suc mine.blocks) +ℤ pos mine.blocks

-- the law: a budget of so many is never used up: the first run has no merger arc left then, and no lawful journal has
pub record BudgetSuffices : Type 0 where
  pub alone : (mine : Instance) (budget : ℕ) → IsSimple mine → most_mergers mine ≤ℤ pos budget → HasNoMerger mine (first_run mine budget)
  pub together :
      (mine : Instance) (budget count : ℕ) (journal : List Entry) → IsSimple mine → most_mergers mine ≤ℤ pos budget
      → IsSpentAt mine (Some budget) journal count → ⊥
