-- What a run says of a schedule, and the text of it.
use Rattle.std.specs.Prelude.{◌≡◌, ℕ, ◌*◌, ◌^◌, ℤ, pos, ◌+ℤ◌, ◌*ℤ◌, ◌≤ℤ◌, ◌<ℤ◌, Bool, true, false, IsTrue, List, ◌++◌, length, Ok, codes, decimal}
use Rattle.pit_model.specs.PitText.{with_six_decimals}
use Rattle.schedule_model.specs.Bound.{IsLagrangianBound, IsRoundedUp, unit}
use Rattle.schedule_model.specs.Problem.{Problem, capacity}
use Rattle.schedule_model.specs.Schedule.{IsSchedule, IsScheduleOf, schedule_value, usage, whole_block}
use Rattle.schedule_model.specs.WholeBlocks.{AreWholeBlocks, KeepsStrictOrder}
use Rattle.scheduling.specs.Checked.{RefusesShares}
use Rattle.scheduling.specs.declared.schedule_error.ScheduleError.TheVariants as errors
use Rattle.schedule_texts.specs.ScheduleText.{prices_in}
use Rattle.schedule_bound.specs.Worth.{HasNodes}
use Rattle.scheduling.specs.Limits.{ArePriceNumbers}
use Rattle.schedule_runs.specs.declared.verdict.Verdict.{Verdict}
use Rattle.schedule_runs.specs.declared.verdict.Verdict.TheVariants.{Schedule, MinedTwice, BeforeNeeded, OverLimit}

-- a number in units of 10^-18, in millionths, rounded down
abbrev pub value_unit : ℕ
value_unit = 10 ^ 12

pub record IsRoundedDown (x rounded : ℤ) : Type 0 where
  pub least : (pos value_unit *ℤ rounded) ≤ℤ x
  pub most : x <ℤ (pos value_unit *ℤ rounded +ℤ pos value_unit)

-- whether each block is mined whole in one period, or never; if so, the shares keep strict precedence
pub record IsWholeVerdict (problem : Problem) (shares : List ℕ) (whole : Bool) : Type 0 where
  pub yes : IsTrue whole → AreWholeBlocks whole_block problem shares
  pub order : IsTrue whole → KeepsStrictOrder whole_block problem shares
  pub no : whole ≡ false → AreWholeBlocks whole_block problem shares → ⊥

-- what is said of the shares of a problem: that they are a schedule, its value, and whether its blocks are whole; or what refutes them
abbrev pub Says : Problem → List ℕ → Verdict → Type 0
Says problem shares (Schedule value whole) = IsSchedule problem shares × IsRoundedDown (schedule_value problem shares) value × IsWholeVerdict problem shares whole
Says problem shares (MinedTwice block period) = RefusesShares problem shares (errors.MinedTwice block period)
Says problem shares (BeforeNeeded block needed period) = RefusesShares problem shares (errors.BeforeNeeded block needed period)
Says problem shares (OverLimit limit period used most) =
    RefusesShares problem shares (errors.OverLimit limit period (usage problem shares limit period)) × IsRoundedUp (usage problem shares limit period) used
    × (most ≡ capacity problem limit period)

-- no schedule of a problem is worth more than a number of millionths, for any common denominator of its shares
abbrev pub NoneIsWorthMore : Problem → ℤ → Type 0
NoneIsWorthMore problem bound = (whole : ℕ) (shares : List ℕ) → IsScheduleOf whole problem shares → schedule_value problem shares ≤ℤ (pos whole *ℤ (pos unit *ℤ bound))

-- the bound at prices, in millionths, rounded up; the prices and the values of the nodes are within their ranges
pub record IsBoundAt (problem : Problem) (prices : List ℤ) (bound : ℤ) : Type 0 where
  pub prices_are : ArePriceNumbers problem prices
  pub nodes : HasNodes problem prices
  pub exact : ℤ
  pub is : IsLagrangianBound problem prices exact
  pub rounded : IsRoundedUp exact bound
  pub none_is_worth_more : NoneIsWorthMore problem bound

-- the bound at the prices that a text spells
pub record IsBoundOf (problem : Problem) (text : List ℕ) (bound : ℤ) : Type 0 where
  pub prices : List ℤ
  pub read : prices_in problem.limits problem.periods text ≡ Ok prices
  pub at_prices : IsBoundAt problem prices bound

abbrev pub whole_line : Bool → List ℕ
whole_line true = codes "WHOLE BLOCKS: yes\n"
whole_line false = codes "WHOLE BLOCKS: no\n"

-- the text of a verdict, and that of a bound
unfoldable pub verdict_text : Verdict → List ℕ
verdict_text (Schedule value whole) = codes "SCHEDULE\nVALUE: " ++ with_six_decimals value ++ codes "\n" ++ whole_line whole
verdict_text (MinedTwice block period) = codes "NO SCHEDULE\nblock " ++ decimal block ++ codes " more than once by the end of period " ++ decimal period ++ codes "\n"
verdict_text (BeforeNeeded block needed period) =
    codes "NO SCHEDULE\nblock " ++ decimal block ++ codes " before block " ++ decimal needed ++ codes " in period " ++ decimal period ++ codes "\n"
verdict_text (OverLimit limit period used most) =
    codes "NO SCHEDULE\nlimit " ++ decimal limit ++ codes " in period " ++ decimal period ++ codes ": " ++ with_six_decimals used ++ codes " of " ++ with_six_decimals most ++ codes "\n"

unfoldable pub bound_text : ℤ → List ℕ
bound_text bound = codes "BOUND: " ++ with_six_decimals bound ++ codes "\n"
