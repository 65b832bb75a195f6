-- Limits at their ends, and what refutes schedules of two blocks, worked out by hand. A definition with a bound, a word, a
-- place or a period changed makes one of these false.
use Rattle.std.specs.Prelude.{◌≡◌, ◌↔◌, ℕ, ◌≤◌, ℤ, pos, neg_ℤ, ◌≤ℤ◌, List, [], ◌∷◌, true, codes}
use Rattle.schedule_model.specs.ExampleSchedules.{none, shares_of, to_dump, to_mill}
use Rattle.scheduling.specs.Checked.{RefusesShares}
use Rattle.scheduling.specs.Limits.{IsPrice}
use Rattle.scheduling.specs.declared.parts.Sizes.{Sizes}
use Rattle.scheduling.specs.declared.schedule_error.ScheduleError.TheVariants as errors
use Rattle.schedule_texts.specs.ExampleTexts.{example_lists}
use Rattle.schedule_texts.specs.ProblemText.{Lists, counts}
use Rattle.schedule_runs.specs.ExampleAnswer.{example_problem}
use Rattle.schedule_runs.specs.Limited.{IsFirstOutOfRange, IsFirstUnlawful, IsInRange, IsLawfulCount, pairs_of_nodes}
use Rattle.schedule_runs.specs.Refusals.{RefusesListed, RefusesSums}
use Rattle.schedule_runs.specs.Verdicts.{verdict_text}
use Rattle.schedule_runs.specs.declared.broken_limit.Quantity.{Quantity}
use Rattle.schedule_runs.specs.declared.broken_limit.Quantity.TheVariants.{Blocks, Periods, Destinations, Columns, Limits, Terms, Nodes, Capacities}
use Rattle.schedule_runs.specs.declared.broken_limit.Section.{Section}
use Rattle.schedule_runs.specs.declared.broken_limit.Section.TheVariants as sections
use Rattle.schedule_runs.specs.declared.refused.Refused.TheVariants as refusals
use Rattle.schedule_runs.specs.declared.shares.Share.{Share}
use Rattle.schedule_runs.specs.declared.verdict.Verdict.TheVariants.{Schedule, MinedTwice, BeforeNeeded, OverLimit}

-- there may be so many of a quantity, and neither fewer nor more
abbrev pub GoesFromTo : Quantity → ℕ → ℕ → Type 0
GoesFromTo quantity least most = (n : ℕ) → IsLawfulCount quantity n ↔ ((least ≤ n) × (n ≤ most))

abbrev pub example_sizes : Sizes
example_sizes = record { periods = 2; destinations = 3; columns = 4; limits = 5 }

-- number i of a section may go from the one to the other
abbrev pub IsFromTo : Section → ℕ → ℤ → ℤ → Type 0
IsFromTo section i least most = (x : ℤ) → IsInRange example_sizes section i x ↔ ((least ≤ℤ x) × (x ≤ℤ most))

-- the limit of a use is none of the two, and an amount after it is too large
abbrev pub two_out_of_range : Lists
two_out_of_range = record example_lists { discounts = []; capacities = []; values = []; uses = pos 0 ∷ pos 2 ∷ pos 0 ∷ pos 0 ∷ []; amounts = pos 10000000000000001 ∷ [] }

pub record LimitsOfProblems : Type 0 where
  pub blocks : GoesFromTo Blocks 0 4194304
  pub periods : GoesFromTo Periods 1 65536
  pub destinations : GoesFromTo Destinations 1 64
  pub columns : GoesFromTo Columns 0 1024
  pub limits : GoesFromTo Limits 0 65536
  pub terms : GoesFromTo Terms 0 1024
  pub nodes : GoesFromTo Nodes 0 4194304
  pub capacities : GoesFromTo Capacities 0 65536
  pub periods_first : IsFirstUnlawful (counts 1 0 65 0 0 0 0) Periods 0
  pub too_many_terms : IsFirstUnlawful (counts 1 1 1 0 0 1000 25) Terms 1025
  pub too_many_nodes : IsFirstUnlawful (counts 65 65536 1 0 2 0 0) Nodes 4259840
  pub too_many_capacities : IsFirstUnlawful (counts 1 65536 1 0 2 0 0) Capacities 131072
  pub discount : IsFromTo sections.Discounts 1 (neg_ℤ (pos 1000000)) (pos 1000000)
  pub capacity : IsFromTo sections.Capacities 1 (neg_ℤ (pos 1000000000000000000)) (pos 1000000000000000000)
  pub amount : IsFromTo sections.Amounts 1 (neg_ℤ (pos 10000000000000000)) (pos 10000000000000000)
  pub destination_of_value : IsFromTo sections.Values 3 (pos 0) (pos 2)
  pub column_of_value : IsFromTo sections.Values 4 (pos 0) (pos 3)
  pub lag_of_value : IsFromTo sections.Values 5 (pos 0) (pos 65536)
  pub destination_of_use : IsFromTo sections.Uses 4 (pos 0) (pos 2)
  pub limit_of_use : IsFromTo sections.Uses 5 (pos 0) (pos 4)
  pub column_of_use : IsFromTo sections.Uses 6 (pos 0) (pos 3)
  pub lag_of_use : IsFromTo sections.Uses 7 (pos 0) (pos 65536)
  pub use_first : IsFirstOutOfRange two_out_of_range sections.Uses 1
  pub pairs : pairs_of_nodes example_lists ((1, 0) ∷ []) ≡ 6
  pub price : (x : ℤ) → IsPrice x ↔ ((pos 0 ≤ℤ x) × (x ≤ℤ pos 1000000000000000))

-- most of block 1 goes to the mill in the first period
abbrev pub some_ore : Share
some_ore = record { block = 1; period = 0; destination = 0; amount = 600000 }

pub record RefutedSchedules : Type 0 where
  pub more_than_once : RefusesShares example_problem (shares_of (to_dump 600000) none (to_dump 400001) none) (errors.MinedTwice 0 1)
  pub before_needed : RefusesShares example_problem (shares_of (to_dump 500000) (to_mill 500000) none (to_mill 1)) (errors.BeforeNeeded 1 0 1)
  pub over_limit : RefusesShares example_problem (shares_of (to_dump 1000000) (to_mill 1) none none) (errors.OverLimit 0 0 (pos 1000001000000))
  pub of_no_block : RefusesListed example_problem (pos 1 ∷ pos 1 ∷ pos 2 ∷ pos 1000000 ∷ pos 2 ∷ pos 0 ∷ pos 0 ∷ pos 1 ∷ []) (refusals.NoShare 1)
  pub twice_too_much : RefusesSums example_problem (some_ore ∷ some_ore ∷ []) (refusals.ShareAbove 1)
  pub twice_text : verdict_text (MinedTwice 0 1) ≡ codes "NO SCHEDULE\nblock 0 more than once by the end of period 1\n"
  pub before_text : verdict_text (BeforeNeeded 1 0 1) ≡ codes "NO SCHEDULE\nblock 1 before block 0 in period 1\n"
  pub over_text : verdict_text (OverLimit 0 1 (pos 1500000) (pos 1000000)) ≡ codes "NO SCHEDULE\nlimit 0 in period 1: 1.500000 of 1.000000\n"
  pub whole_text : verdict_text (Schedule (pos 1) true) ≡ codes "SCHEDULE\nVALUE: 0.000001\nWHOLE BLOCKS: yes\n"
