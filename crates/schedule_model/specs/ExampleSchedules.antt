-- Schedules of two blocks in two periods, worked out by hand. A definition with a sign, a comparison, a period or a destination changed makes
-- one of these false.
use Rattle.std.specs.Prelude.{◌≡◌, ℕ, pos, neg_ℤ, List, [], ◌∷◌, ◌++◌}
use Rattle.schedule_model.specs.declared.term.Term.{Term}
use Rattle.schedule_model.specs.declared.term.Effect.{Effect}
use Rattle.schedule_model.specs.declared.term.Effect.TheVariants.{Value, Use}
use Rattle.schedule_model.specs.Problem.{Problem, capacity, gain, used}
use Rattle.schedule_model.specs.Schedule.{IsSchedule, schedule_value, usage, whole_block}
use Rattle.schedule_model.specs.WholeBlocks.{AreWholeBlocks}
use Rattle.schedule_model.specs.Bound.{IsRoundedUp, priced_gain}

abbrev pub term : ℕ → Effect → ℕ → ℕ → Term
term destination effect column lag = record { destination = destination; effect = effect; column = column; lag = lag }

-- block 1 needs block 0. Columns: tonnes, value in the mill, value as waste. Destinations: mill, dump, and a stockpile that is milled one
-- period later. Limits: tonnes mined, at most 1 in each period, and tonnes milled, at most 1 and then 2. A unit is worth 2 in the first period.
abbrev pub two_years : Problem
two_years = record {
  blocks = 2;
  pairs = (1, 0) ∷ [];
  periods = 2;
  destinations = 3;
  columns = 3;
  amounts = pos 1 ∷ neg_ℤ (pos 5) ∷ neg_ℤ (pos 2) ∷ pos 1 ∷ pos 10 ∷ neg_ℤ (pos 2) ∷ [];
  terms =
      term 0 Value 1 0 ∷ term 1 Value 2 0 ∷ term 2 Value 1 1
      ∷ term 0 (Use 0) 0 0 ∷ term 1 (Use 0) 0 0 ∷ term 2 (Use 0) 0 0
      ∷ term 0 (Use 1) 0 0 ∷ term 2 (Use 1) 0 1 ∷ [];
  discounts = pos 2 ∷ pos 1 ∷ [];
  limits = 2;
  capacities = pos 1 ∷ pos 1 ∷ pos 1 ∷ pos 2 ∷ [];
}

-- shares by period, block and destination
abbrev pub shares_of : List ℕ → List ℕ → List ℕ → List ℕ → List ℕ
shares_of first_0 first_1 second_0 second_1 = first_0 ++ first_1 ++ second_0 ++ second_1

abbrev pub none : List ℕ
none = 0 ∷ 0 ∷ 0 ∷ []

abbrev pub to_mill : ℕ → List ℕ
to_mill share = share ∷ 0 ∷ 0 ∷ []

abbrev pub to_dump : ℕ → List ℕ
to_dump share = 0 ∷ share ∷ 0 ∷ []

abbrev pub to_stockpile : ℕ → List ℕ
to_stockpile share = 0 ∷ 0 ∷ share ∷ []

-- the waste first and then the ore; and half of both in each period
abbrev pub in_turn : List ℕ
in_turn = shares_of (to_dump 1000000) none none (to_mill 1000000)

abbrev pub by_halves : List ℕ
by_halves = shares_of (to_dump 500000) (to_mill 500000) (to_dump 500000) (to_mill 500000)

-- half of the ore waits a period on the stockpile
abbrev pub stocked : List ℕ
stocked = shares_of (to_dump 500000) (to_stockpile 500000) (to_dump 500000) (to_mill 500000)

-- half of the ore goes to the mill and half onto the stockpile in the same period
abbrev pub split : List ℕ
split = shares_of (to_dump 1000000) none none (500000 ∷ 0 ∷ 500000 ∷ [])

pub record SchedulesOfTwoBlocks : Type 0 where
  pub turns : IsSchedule two_years in_turn
  pub turns_value : schedule_value two_years in_turn ≡ pos 6000000
  pub halves : IsSchedule two_years by_halves
  pub halves_value : schedule_value two_years by_halves ≡ pos 12000000
  pub stocks : IsSchedule two_years stocked
  pub stocks_value : schedule_value two_years stocked ≡ pos 7000000
  pub whole : AreWholeBlocks whole_block two_years in_turn
  pub split_is_whole : AreWholeBlocks whole_block two_years split
  pub halves_are_not_whole : AreWholeBlocks whole_block two_years by_halves → ⊥
  pub mined_now : usage two_years stocked 0 0 ≡ pos 1000000
  pub milled_later : usage two_years stocked 1 1 ≡ pos 1000000
  pub not_milled_now : usage two_years stocked 1 0 ≡ pos 0
  pub not_before_waste : IsSchedule two_years (shares_of none (to_mill 1000000) (to_dump 1000000) none) → ⊥
  pub not_within_a_period : IsSchedule two_years (shares_of none none (to_dump 500000) (to_mill 500001)) → ⊥
  pub not_above_a_limit : IsSchedule two_years (shares_of (to_dump 1000000) (to_mill 1) none none) → ⊥
  pub not_twice : IsSchedule two_years (shares_of (to_dump 1000000) none (to_dump 1) none) → ⊥
  pub none_after_the_end : gain two_years 1 1 2 ≡ pos 0
  pub later_gain : gain two_years 1 0 2 ≡ pos 10
  pub later_use : used two_years 1 0 2 1 1 ≡ pos 1
  pub own_limit : used two_years 1 0 2 0 1 ≡ pos 0
  pub second_limit : capacity two_years 1 1 ≡ pos 2
  pub priced : priced_gain two_years (pos 3 ∷ pos 5 ∷ pos 7 ∷ pos 11 ∷ []) 1 0 2 ≡ neg_ℤ (pos 4)
  pub up : IsRoundedUp (pos 1) (pos 1)
  pub up_from_below : IsRoundedUp (neg_ℤ (pos 1)) (pos 0)
  pub exact : IsRoundedUp (pos 2000000) (pos 2)
  pub not_down : IsRoundedUp (pos 1) (pos 0) → ⊥
  pub not_further : IsRoundedUp (pos 2000000) (pos 3) → ⊥
