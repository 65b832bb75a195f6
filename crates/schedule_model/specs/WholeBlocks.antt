-- Schedules of whole blocks: each block is mined whole in one period, or never. Of their shares `whole` are a block.
use Rattle.std.specs.Prelude.{◌≡◌, ◌⊎◌, ℕ, ◌<◌, ◌≤◌, pos, List, length}
use Rattle.pit_model.specs.Graph.{AreInRange, first_of, second_of}
use Rattle.schedule_model.specs.Problem.{Problem}
use Rattle.schedule_model.specs.Schedule.{IsScheduleOf, mined}

-- block b is mined whole in period t
abbrev pub IsMinedIn : ℕ → Problem → List ℕ → ℕ → ℕ → Type 0
IsMinedIn whole problem shares b t = mined problem shares b t ≡ pos whole

-- nothing of block b is mined in period t, or the whole of it
abbrev pub IsWholeOrLeft : ℕ → Problem → List ℕ → ℕ → ℕ → Type 0
IsWholeOrLeft whole problem shares b t = (mined problem shares b t ≡ pos 0) ⊎ IsMinedIn whole problem shares b t

-- so it is with each block in a period; and in all periods
abbrev pub AreWholeIn : ℕ → Problem → List ℕ → ℕ → Type 0
AreWholeIn whole problem shares t = (b : ℕ) → b < problem.blocks → IsWholeOrLeft whole problem shares b t

abbrev pub AreWholeBlocks : ℕ → Problem → List ℕ → Type 0
AreWholeBlocks whole problem shares = (t : ℕ) → t < problem.periods → AreWholeIn whole problem shares t

-- strict precedence: no block is mined in two periods, and each block that a mined block needs is mined in the same period or before it
pub record KeepsStrictOrder (whole : ℕ) (problem : Problem) (shares : List ℕ) : Type 0 where
  pub once :
      (b s t : ℕ) → b < problem.blocks → s < problem.periods → t < problem.periods
      → IsMinedIn whole problem shares b s → IsMinedIn whole problem shares b t → s ≡ t
  pub in_order :
      (k t : ℕ) → k < length problem.pairs → t < problem.periods → IsMinedIn whole problem shares (first_of problem.pairs k) t
      → (s : ℕ) × (s ≤ t) × IsMinedIn whole problem shares (second_of problem.pairs k) s

-- the law: a schedule of whole blocks keeps strict precedence
abbrev pub WholeBlocksKeepOrder : Type 0
WholeBlocksKeepOrder =
    (problem : Problem) (whole : ℕ) (shares : List ℕ) → AreInRange problem.pairs problem.blocks → 0 < whole
    → IsScheduleOf whole problem shares → AreWholeBlocks whole problem shares → KeepsStrictOrder whole problem shares
