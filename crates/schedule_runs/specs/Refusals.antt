-- Why a run gives no verdict. The texts are blamed in their order: problem, precedence, schedule, prices. A text is blamed for its first fault,
-- and where it has none for the first limit that what it spells breaks.
use Rattle.std.specs.Prelude.{◌≡◌, ◌⊎◌, ℕ, ◌+◌, ◌*◌, ◌<◌, ◌≤ℤ◌, ℤ, pos, List, length, Ok}
use Rattle.pit_model.specs.Size.{most_pairs}
use Rattle.faults.specs.declared.fault.Fault.{Fault}
use Rattle.mine_graph.specs.Faults.{IsGraphFault}
use Rattle.minelib_reader.specs.Answer.{FailsAt, FailsBy}
use Rattle.minelib_reader.specs.PrecFault.{IsFirstPrecFault}
use Rattle.minelib_reader.specs.PrecGrammar.{SpellsPrec}
use Rattle.minelib_reader.specs.Device.{Progress}
use Rattle.schedule_bound.specs.Worth.{RefusesBound}
use Rattle.scheduling.specs.First.{IsFirstWithout}
use Rattle.scheduling.specs.declared.bound_error.BoundError.TheVariants as errors
use Rattle.schedule_model.specs.Problem.{Problem}
use Rattle.schedule_model.specs.Schedule.{whole_block}
use Rattle.schedule_texts.specs.ProblemText.{Lists, lists_in}
use Rattle.schedule_texts.specs.ScheduleText.{prices_in, shares_in}
use Rattle.schedule_runs.specs.Limited.{AreLawful, AreLawfulCounts, IsFirstOutOfRange, IsFirstUnlawful, pairs_of_nodes}
use Rattle.schedule_runs.specs.ProblemRead.{SpellsGraph, SpellsProblem}
use Rattle.schedule_runs.specs.SharesRead.{AreListed, IsLawfulShare, SpellsShares, place_of, share_in, sum_at}
use Rattle.schedule_runs.specs.declared.broken_limit.BrokenLimit.{BrokenLimit}
use Rattle.schedule_runs.specs.declared.broken_limit.BrokenLimit.TheVariants.{Count, Number, Pairs}
use Rattle.schedule_runs.specs.declared.refused.Refused.{Refused}
use Rattle.schedule_runs.specs.declared.refused.Refused.TheVariants as refusals
use Rattle.schedule_runs.specs.declared.shares.Share.{Share}

-- the first fault of the text of a precedence, or a cycle of the arcs that it spells
abbrev pub RefusesArcs : ℕ → List ℕ → Fault → Type 0
RefusesArcs n text fault = FailsAt fault.refusal fault (IsFirstPrecFault n text) ⊎ ((arcs : List (ℕ × ℕ)) × SpellsPrec n text arcs × IsGraphFault arcs n fault)

-- the first limit that the problem's own text breaks
abbrev pub BreaksOwnLimit : Lists → BrokenLimit → Type 0
BreaksOwnLimit lists (Count quantity n) = IsFirstUnlawful lists.sizes quantity n
BreaksOwnLimit lists (Number section i) = AreLawfulCounts lists.sizes × IsFirstOutOfRange lists section i
BreaksOwnLimit lists (Pairs n) = ⊥

-- or the pairs of nodes, where it breaks none
abbrev pub BreaksLimit : Lists → List ℕ → BrokenLimit → Type 0
BreaksLimit lists precedence (Pairs n) =
    AreLawful lists × ((pairs : List (ℕ × ℕ)) × SpellsGraph lists.sizes.blocks precedence pairs × (n ≡ pairs_of_nodes lists pairs) × (most_pairs < n))
BreaksLimit lists precedence limit = BreaksOwnLimit lists limit

-- why two texts are no problem: memory, the first fault of one of them, or the first limit that is broken
abbrev pub RefusesProblem : List ℕ → List ℕ → Refused → Type 0
RefusesProblem text precedence refusals.NoMemory = Unit {0}
RefusesProblem text precedence (refusals.Problem fault) = FailsBy fault.refusal fault (lists_in text)
RefusesProblem text precedence (refusals.Beyond limit) = (lists : Lists) × (lists_in text ≡ Ok lists) × BreaksLimit lists precedence limit
RefusesProblem text precedence (refusals.Precedence fault) = (lists : Lists) × (lists_in text ≡ Ok lists) × AreLawful lists × RefusesArcs lists.sizes.blocks precedence fault
RefusesProblem text precedence _ = ⊥

-- the sum of the shares up to one of them, at the place of that one, is not above a whole block
abbrev pub StaysWhole : Problem → List Share → ℕ → Type 0
StaysWhole problem listed j = sum_at problem listed (j + 1) (place_of problem (share_in listed j)) ≤ℤ pos whole_block

-- why numbers list no shares of a problem: memory, or the first share that is none
abbrev pub RefusesListed : Problem → List ℤ → Refused → Type 0
RefusesListed problem numbers refusals.NoMemory = Unit {0}
RefusesListed problem numbers (refusals.NoShare j) = (4 * j + 3 < length numbers) × IsFirstWithout (IsLawfulShare problem numbers) j
RefusesListed problem numbers _ = ⊥

-- why the sums of listed shares are not taken: memory, or the first share with which more than a whole block is sent to one destination in one
-- period
abbrev pub RefusesSums : Problem → List Share → Refused → Type 0
RefusesSums problem listed refusals.NoMemory = Unit {0}
RefusesSums problem listed (refusals.ShareAbove j) = (j < length listed) × IsFirstWithout (StaysWhole problem listed) j
RefusesSums problem listed _ = ⊥

-- why numbers are no shares of a problem
abbrev pub RefusesNumbers : Problem → List ℤ → Refused → Type 0
RefusesNumbers problem numbers (refusals.ShareAbove j) = (listed : List Share) × AreListed problem numbers listed × RefusesSums problem listed (refusals.ShareAbove j)
RefusesNumbers problem numbers refusal = RefusesListed problem numbers refusal

-- why a text has no shares of a problem: memory, its first fault, or the first share that is none of the problem or too large
abbrev pub RefusesSchedule : Problem → List ℕ → Refused → Type 0
RefusesSchedule problem text (refusals.Schedule fault) = FailsBy fault.refusal fault (shares_in problem.blocks problem.periods problem.destinations text)
RefusesSchedule problem text refusal =
    (numbers : List ℤ) × (shares_in problem.blocks problem.periods problem.destinations text ≡ Ok numbers) × RefusesNumbers problem numbers refusal

-- why there is no bound at prices: memory, or the first price or the first value of a node that is out of range
abbrev pub RefusesPriceNumbers : Problem → List ℤ → Refused → Type 0
RefusesPriceNumbers problem prices refusals.NoMemory = Unit {0}
RefusesPriceNumbers problem prices (refusals.PriceOutOfRange place) = RefusesBound problem prices (errors.PriceOutOfRange place)
RefusesPriceNumbers problem prices (refusals.ValueBeyond node) = RefusesBound problem prices (errors.ValueBeyond node)
RefusesPriceNumbers problem prices _ = ⊥

-- why a text of prices gives no bound: its first fault, or one of these
abbrev pub RefusesPriceText : Problem → List ℕ → Refused → Type 0
RefusesPriceText problem text (refusals.Prices fault) = FailsBy fault.refusal fault (prices_in problem.limits problem.periods text)
RefusesPriceText problem text refusal = (prices : List ℤ) × (prices_in problem.limits problem.periods text ≡ Ok prices) × RefusesPriceNumbers problem prices refusal

-- why a run wrote nothing: the first of its texts that is at fault, or memory
abbrev pub RefusesTexts : List ℕ → List ℕ → List ℕ → Refused → Type 0
RefusesTexts text precedence schedule refusal =
    RefusesProblem text precedence refusal ⊎ ((problem : Problem) × SpellsProblem text precedence problem × RefusesSchedule problem schedule refusal)

abbrev pub RefusesBoundOf : List ℕ → List ℕ → List ℕ → Refused → Type 0
RefusesBoundOf text precedence prices refusal =
    RefusesProblem text precedence refusal ⊎ ((problem : Problem) × SpellsProblem text precedence problem × RefusesPriceText problem prices refusal)

abbrev pub RefusesBoth : List ℕ → List ℕ → List ℕ → List ℕ → Refused → Type 0
RefusesBoth text precedence schedule prices refusal =
    RefusesTexts text precedence schedule refusal
    ⊎ ((problem : Problem) × SpellsProblem text precedence problem × (shares : List ℕ) × SpellsShares schedule problem shares × RefusesPriceText problem prices refusal)

-- a write failed, behind a beginning of the text
abbrev pub IsFailedWrite : Progress → Progress → Refused → Type 0
IsFailedWrite before after refusal = (refusal ≡ refusals.WriteFailed) × (after.failures ≡ before.failures + 1)
