-- The lists of two blocks are those of their problem by computing.
use Rattle.std.proofs.Common.{ℕ, zero, suc, ◌+◌, ◌<◌, refl, arith}
use Rattle.std.specs.Fmt.{digits}
use Rattle.pit_model.specs.PitText.{with_decimals}
use Rattle.schedule_texts.specs.ExampleTexts.{example_lists}
use Rattle.schedule_runs.specs.ProblemRead.{IsUseTerm, IsValueTerm}
use Rattle.schedule_runs.specs.ExampleAnswer.{AnswerOfTwoBlocks, example_problem}
use Rattle.schedule_runs.specs.Verdicts.{bound_text, verdict_text}
use Rattle.schedule_model.specs.Problem.{no_term}
use Rattle.std.specs.Prelude.{get_or}

value_terms : (k : ℕ) → k < 3 → IsValueTerm example_lists.values k (get_or example_problem.terms k no_term)
value_terms zero h = record { destination = refl; column = refl; lag = refl; effect = refl }
value_terms (suc zero) h = record { destination = refl; column = refl; lag = refl; effect = refl }
value_terms (suc (suc zero)) h = record { destination = refl; column = refl; lag = refl; effect = refl }
value_terms (suc (suc (suc k))) h = absurd (omega arith)

use_terms : (k : ℕ) → k < 5 → IsUseTerm example_lists.uses k (get_or example_problem.terms (3 + k) no_term)
use_terms zero h = record { limit = 0; destination = refl; limit_is = refl; column = refl; lag = refl; effect = refl }
use_terms (suc zero) h = record { limit = 0; destination = refl; limit_is = refl; column = refl; lag = refl; effect = refl }
use_terms (suc (suc zero)) h = record { limit = 0; destination = refl; limit_is = refl; column = refl; lag = refl; effect = refl }
use_terms (suc (suc (suc zero))) h = record { limit = 1; destination = refl; limit_is = refl; column = refl; lag = refl; effect = refl }
use_terms (suc (suc (suc (suc zero)))) h = record { limit = 1; destination = refl; limit_is = refl; column = refl; lag = refl; effect = refl }
use_terms (suc (suc (suc (suc (suc k))))) h = absurd (omega arith)

pub answer_of_two_blocks : AnswerOfTwoBlocks
unfolding bound_text verdict_text with_decimals digits
answer_of_two_blocks = record {
  problem_is = record {
    blocks = refl;
    periods = refl;
    destinations = refl;
    columns = refl;
    limits = refl;
    amounts = refl;
    discounts = refl;
    capacities = refl;
    terms = record { count = refl; values = value_terms; uses = use_terms };
  };
  answer = refl;
  bound = refl;
}
