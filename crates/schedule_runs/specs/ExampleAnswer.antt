-- The example of the formats: the problem of two blocks in two periods that its text spells, and how the answer to it reads.
use Rattle.std.specs.Prelude.{◌≡◌, ℤ, pos, neg_ℤ, [], ◌∷◌, false, codes}
use Rattle.schedule_model.specs.Problem.{Problem}
use Rattle.schedule_model.specs.ExampleSchedules.{two_years}
use Rattle.schedule_texts.specs.ExampleTexts.{example_lists}
use Rattle.schedule_runs.specs.ProblemRead.{IsProblemOf}
use Rattle.schedule_runs.specs.Verdicts.{bound_text, verdict_text}
use Rattle.schedule_runs.specs.declared.verdict.Verdict.TheVariants.{Schedule}

-- the problem of two years, with numbers in millionths
abbrev pub example_problem : Problem
example_problem = record two_years {
  amounts = pos 1000000 ∷ neg_ℤ (pos 5000000) ∷ neg_ℤ (pos 2000000) ∷ pos 1000000 ∷ pos 10000000 ∷ neg_ℤ (pos 2000000) ∷ [];
  discounts = pos 1000000 ∷ pos 500000 ∷ [];
  capacities = pos 1000000 ∷ pos 1000000 ∷ pos 1000000 ∷ pos 2000000 ∷ [];
}

-- the lists are those of this problem, and the answer to it reads so
pub record AnswerOfTwoBlocks : Type 0 where
  pub problem_is : IsProblemOf example_lists example_problem
  pub answer : verdict_text (Schedule (pos 6500000) false) ≡ codes "SCHEDULE\nVALUE: 6.500000\nWHOLE BLOCKS: no\n"
  pub bound : bound_text (pos 6500000) ≡ codes "BOUND: 6.500000\n"
