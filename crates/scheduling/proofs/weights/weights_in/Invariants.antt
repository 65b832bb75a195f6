-- The weights so far.
use Rattle.std.proofs.Common.{◌≡◌, ℕ, ◌<◌, get_or, length}
use Rattle.std.specs.Prelude.{pos}
use Rattle.schedule_model.specs.Problem.{term_at}
use Rattle.scheduling.specs.Limits.{IsWithinDistance, most_price}
use Rattle.scheduling.specs.Weights.{weight}
use Rattle.scheduling.proofs.weights.weights_in.Given as goal

abbrev pub invariant-loop-k : goal.invariant-loop-k
invariant-loop-k l = record {
  count : length l.weights.items ≡ l.k;
  each : (j : ℕ) → j < l.k → get_or l.weights.items j (pos 0) ≡ weight l.problem l.prices l.period (term_at l.problem j).effect (term_at l.problem j).lag;
  small : (j : ℕ) → j < l.k → IsWithinDistance most_price (get_or l.weights.items j (pos 0));
}
