-- The schedules of two blocks: their sums compute.
use Rattle.std.proofs.Common.{◌≡◌, ℕ, zero, suc, ◌<◌, List, refl, arith, ⊎_elim, inl, inr}
use Rattle.std.specs.Prelude.{ℤ, pos, ◌*ℤ◌, ◌≤ℤ◌, int_le, true}
use Rattle.std.proofs.lemmas.Int.{ints}
use Rattle.pit_model.specs.Graph.{first_of, second_of}
use Rattle.schedule_model.specs.Problem.{capacity}
use Rattle.schedule_model.specs.Schedule.{IsSchedule, mined, mined_in_first, usage, whole_block}
use Rattle.schedule_model.specs.WholeBlocks.{AreWholeBlocks, AreWholeIn, IsWholeOrLeft}
use Rattle.schedule_model.specs.ExampleSchedules.{SchedulesOfTwoBlocks, by_halves, in_turn, split, stocked, two_years}

-- what holds of 0 and of 1 holds below 2
below_two : (P : ℕ → Type 0) → P 0 → P 1 → (i : ℕ) → i < 2 → P i
below_two P a b zero h = a
below_two P a b (suc zero) h = b
below_two P a b (suc (suc i)) h = absurd (omega arith)

below_one : (P : ℕ → Type 0) → P 0 → (i : ℕ) → i < 1 → P i
below_one P a zero h = a
below_one P a (suc i) h = absurd (omega arith)

le : (x y : ℤ) → int_le x y ≡ true → x ≤ℤ y
le x y e = omega (arith, ints, e)

is_schedule : (shares : List ℕ)
    → int_le (mined_in_first two_years shares 0 2) (pos whole_block) ≡ true → int_le (mined_in_first two_years shares 1 2) (pos whole_block) ≡ true
    → int_le (mined_in_first two_years shares 1 1) (mined_in_first two_years shares 0 1) ≡ true → int_le (mined_in_first two_years shares 1 2) (mined_in_first two_years shares 0 2) ≡ true
    → int_le (usage two_years shares 0 0) (pos whole_block *ℤ capacity two_years 0 0) ≡ true → int_le (usage two_years shares 0 1) (pos whole_block *ℤ capacity two_years 0 1) ≡ true
    → int_le (usage two_years shares 1 0) (pos whole_block *ℤ capacity two_years 1 0) ≡ true → int_le (usage two_years shares 1 1) (pos whole_block *ℤ capacity two_years 1 1) ≡ true
    → IsSchedule two_years shares
is_schedule shares a b c d e f g h = record {
  once = below_two (λ i. mined_in_first two_years shares i 2 ≤ℤ pos whole_block) (le _ _ a) (le _ _ b);
  in_order = λ k t hk ht.
      below_one (λ k. mined_in_first two_years shares (first_of two_years.pairs k) (suc t) ≤ℤ mined_in_first two_years shares (second_of two_years.pairs k) (suc t))
      (below_two (λ t. mined_in_first two_years shares 1 (suc t) ≤ℤ mined_in_first two_years shares 0 (suc t)) (le _ _ c) (le _ _ d) t ht) k hk;
  within = λ r s hr hs.
      below_two (λ r. usage two_years shares r s ≤ℤ (pos whole_block *ℤ capacity two_years r s))
      (below_two (λ s. usage two_years shares 0 s ≤ℤ (pos whole_block *ℤ capacity two_years 0 s)) (le _ _ e) (le _ _ f) s hs)
      (below_two (λ s. usage two_years shares 1 s ≤ℤ (pos whole_block *ℤ capacity two_years 1 s)) (le _ _ g) (le _ _ h) s hs) r hr;
}

-- block 0 is mined in the first period and block 1 in the second
are_whole : (shares : List ℕ) → mined two_years shares 0 0 ≡ pos whole_block → mined two_years shares 1 0 ≡ pos 0 → mined two_years shares 0 1 ≡ pos 0
    → mined two_years shares 1 1 ≡ pos whole_block → AreWholeBlocks whole_block two_years shares
are_whole shares a b c d t ht i hi =
    below_two (AreWholeIn whole_block two_years shares)
    (below_two (λ b. IsWholeOrLeft whole_block two_years shares b 0) (inr a) (inl b))
    (below_two (λ b. IsWholeOrLeft whole_block two_years shares b 1) (inl c) (inr d)) t ht i hi

pub schedules_of_two_blocks : SchedulesOfTwoBlocks
schedules_of_two_blocks = record {
  turns = is_schedule in_turn refl refl refl refl refl refl refl refl;
  turns_value = refl;
  halves = is_schedule by_halves refl refl refl refl refl refl refl refl;
  halves_value = refl;
  stocks = is_schedule stocked refl refl refl refl refl refl refl refl;
  stocks_value = refl;
  whole = are_whole in_turn refl refl refl refl;
  split_is_whole = are_whole split refl refl refl refl;
  halves_are_not_whole = λ each. ⊎_elim
      (λ (none : pos 500000 ≡ pos 0). absurd (omega (arith, ints)))
      (λ (all : pos 500000 ≡ pos 1000000). absurd (omega (arith, ints)))
      (each 0 (omega arith) 0 (omega arith));
  mined_now = refl;
  milled_later = refl;
  not_milled_now = refl;
  not_before_waste = λ s. let h = s.in_order 0 0 (omega arith) (omega arith) in omega (arith, ints);
  not_within_a_period = λ s. let h = s.in_order 0 1 (omega arith) (omega arith) in omega (arith, ints);
  not_above_a_limit = λ s. let h = s.within 0 0 (omega arith) (omega arith) in omega (arith, ints);
  not_twice = λ s. let h = s.once 0 (omega arith) in omega (arith, ints);
  none_after_the_end = refl;
  later_gain = refl;
  later_use = refl;
  own_limit = refl;
  second_limit = refl;
  priced = refl;
  up = record { least = omega (arith, ints); most = omega (arith, ints) };
  up_from_below = record { least = omega (arith, ints); most = omega (arith, ints) };
  exact = record { least = omega (arith, ints); most = omega (arith, ints) };
  not_down = λ r. let h = r.least in omega (arith, ints);
  not_further = λ r. let h = r.most in omega (arith, ints);
}
