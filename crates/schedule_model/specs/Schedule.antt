-- A schedule: the share of each block that is mined in each period and sent to each destination. Shares are whole numbers over a common
-- denominator.
use Rattle.std.specs.Prelude.{ℕ, suc, ◌+◌, ◌*◌, ◌^◌, ◌<◌, ℤ, pos, ◌*ℤ◌, ◌≤ℤ◌, List, length, get_or}
use Rattle.pit_model.specs.Sum.{total}
use Rattle.pit_model.specs.Graph.{first_of, second_of}
use Rattle.schedule_model.specs.Problem.{Problem, capacity, gain, used}

-- a whole block, in millionths
abbrev pub whole_block : ℕ
whole_block = 10 ^ 6

-- shares stand by period, block and destination
abbrev pub share : Problem → List ℕ → ℕ → ℕ → ℕ → ℤ
share problem shares b t d = pos (get_or shares ((t * problem.blocks + b) * problem.destinations + d) 0)

-- a sum over all periods, blocks and destinations
abbrev pub overall : Problem → (ℕ → ℕ → ℕ → ℤ) → ℤ
overall problem f = total problem.periods (λ t. total problem.blocks (λ b. total problem.destinations (λ d. f b t d)))

-- the share of a block that is mined in a period; and in the first periods, so many of them
abbrev pub mined : Problem → List ℕ → ℕ → ℕ → ℤ
mined problem shares b t = total problem.destinations (λ d. share problem shares b t d)

abbrev pub mined_in_first : Problem → List ℕ → ℕ → ℕ → ℤ
mined_in_first problem shares b count = total count (λ t. mined problem shares b t)

-- the use of limit r in period s, in millionths of shares
abbrev pub usage : Problem → List ℕ → ℕ → ℕ → ℤ
usage problem shares r s = overall problem (λ b t d. share problem shares b t d *ℤ used problem b t d r s)

-- for shares of which `whole` are a block: no block is mined more than once; by the end of each period no more of a block is mined than of
-- each block that it needs; and no limit is exceeded in any period
pub record IsScheduleOf (whole : ℕ) (problem : Problem) (shares : List ℕ) : Type 0 where
  pub once : (b : ℕ) → b < problem.blocks → mined_in_first problem shares b problem.periods ≤ℤ pos whole
  pub in_order :
      (k t : ℕ) → k < length problem.pairs → t < problem.periods
      → mined_in_first problem shares (first_of problem.pairs k) (suc t) ≤ℤ mined_in_first problem shares (second_of problem.pairs k) (suc t)
  pub within : (r s : ℕ) → r < problem.limits → s < problem.periods → usage problem shares r s ≤ℤ (pos whole *ℤ capacity problem r s)

-- for shares in millionths
abbrev pub IsSchedule : Problem → List ℕ → Type 0
IsSchedule problem shares = IsScheduleOf whole_block problem shares

-- the discounted value of a schedule, in units of 10^-12 for each share of a block
abbrev pub schedule_value : Problem → List ℕ → ℤ
schedule_value problem shares = overall problem (λ b t d. share problem shares b t d *ℤ gain problem b t d)
