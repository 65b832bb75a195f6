-- What is summed to check a schedule, and why a list of shares is no schedule.
use Rattle.std.specs.Prelude.{◌≡◌, ℕ, suc, ◌+◌, ◌-◌, ◌*◌, ◌<◌, ◌≤◌, ◌==◌, ℤ, pos, ◌*ℤ◌, ◌≤ℤ◌, List, length, get_or, leb}
use Rattle.pit_model.specs.Sum.{total, when}
use Rattle.pit_model.specs.Graph.{first_of, second_of}
use Rattle.schedule_model.specs.declared.term.Effect.{Effect}
use Rattle.schedule_model.specs.declared.term.Effect.TheVariants.{Value, Use}
use Rattle.schedule_model.specs.Problem.{Problem, amount_in, capacity, discount, term_at}
use Rattle.schedule_model.specs.Schedule.{share, usage, whole_block}
use Rattle.scheduling.specs.First.{IsFirstWithout}
use Rattle.scheduling.specs.Order.{AreMinedOnceBy, IsInOrder, IsInOrderBefore, IsInOrderBy, IsMinedOnceBy, IsPairInOrderBy}
use Rattle.scheduling.specs.declared.schedule_error.ScheduleError.{ScheduleError}
use Rattle.scheduling.specs.declared.schedule_error.ScheduleError.TheVariants.{NoMemory, WrongCount, ShareAbove, MinedTwice, BeforeNeeded, OverLimit}

-- a share of each block for each period and destination, none above a whole block
pub record AreShares (problem : Problem) (shares : List ℕ) : Type 0 where
  pub count : length shares ≡ problem.periods * problem.blocks * problem.destinations
  pub most : (i : ℕ) → i < length shares → get_or shares i 0 ≤ whole_block

-- the amount in a column that is sent to a destination in a period: of one block, and of all
abbrev pub moved_of_block : Problem → List ℕ → ℕ → ℕ → ℕ → ℕ → ℤ
moved_of_block problem shares t d column b = share problem shares b t d *ℤ amount_in problem b column

abbrev pub moved : Problem → List ℕ → ℕ → ℕ → ℕ → ℤ
moved problem shares t d column = total problem.blocks (moved_of_block problem shares t d column)

-- what one term uses of limit r in period s
abbrev pub term_usage : Problem → List ℕ → ℕ → Effect → ℕ → ℕ → ℕ → ℕ → ℤ
term_usage problem shares d Value column lag r s = pos 0
term_usage problem shares d (Use q) column lag r s = when (q == r) (when (leb lag s) (moved problem shares (s - lag) d column))

abbrev pub part_of_usage : Problem → List ℕ → ℕ → ℕ → ℕ → ℤ
part_of_usage problem shares r s k = term_usage problem shares (term_at problem k).destination (term_at problem k).effect (term_at problem k).column (term_at problem k).lag r s

-- what an amount that is moved in a period yields some periods later, discounted
abbrev pub discounted : Problem → List ℕ → ℕ → ℕ → ℕ → ℕ → ℤ
discounted problem shares d column lag t = moved problem shares t d column *ℤ discount problem (t + lag)

-- what one term yields
abbrev pub term_value : Problem → List ℕ → ℕ → Effect → ℕ → ℕ → ℤ
term_value problem shares d Value column lag = total problem.periods (discounted problem shares d column lag)
term_value problem shares d (Use q) column lag = pos 0

abbrev pub part_of_value : Problem → List ℕ → ℕ → ℤ
part_of_value problem shares k = term_value problem shares (term_at problem k).destination (term_at problem k).effect (term_at problem k).column (term_at problem k).lag

-- a limit is kept in a period
abbrev pub IsWithinLimit : Problem → List ℕ → ℕ → ℕ → Type 0
IsWithinLimit problem shares r s = usage problem shares r s ≤ℤ (pos whole_block *ℤ capacity problem r s)

-- why shares are no schedule: no memory; not a share of each kind; the first share above a whole block; or the first of these. Period by period:
-- a block that is mined more than once by its end, then a pair of blocks of which more is mined of the one than of the other, which it needs; and
-- after all periods, limit by limit, a period in which it is exceeded
abbrev pub RefusesShares : Problem → List ℕ → ScheduleError → Type 0
RefusesShares problem shares NoMemory = Unit {0}
RefusesShares problem shares WrongCount = length shares ≡ problem.periods * problem.blocks * problem.destinations → ⊥
RefusesShares problem shares (ShareAbove i) = (i < length shares) × IsFirstWithout (λ j. get_or shares j 0 ≤ whole_block) i
RefusesShares problem shares (MinedTwice block period) =
    (block < problem.blocks) × (period < problem.periods) × IsInOrderBefore problem shares period × IsFirstWithout (IsMinedOnceBy problem shares period) block
RefusesShares problem shares (BeforeNeeded block needed period) =
    (k : ℕ) × (k < length problem.pairs) × (first_of problem.pairs k ≡ block) × (second_of problem.pairs k ≡ needed) × (period < problem.periods)
    × IsInOrderBefore problem shares period × AreMinedOnceBy problem shares period × IsFirstWithout (IsPairInOrderBy problem shares period) k
RefusesShares problem shares (OverLimit limit period used) =
    (limit < problem.limits) × (period < problem.periods) × (used ≡ usage problem shares limit period) × IsInOrder problem shares
    × ((r s : ℕ) → r < limit → s < problem.periods → IsWithinLimit problem shares r s) × IsFirstWithout (IsWithinLimit problem shares limit) period
