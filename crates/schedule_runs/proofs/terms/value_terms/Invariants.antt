-- The terms so far.
use Rattle.std.proofs.Common.{◌≡◌, ℕ, ◌<◌, get_or, length}
use Rattle.schedule_model.specs.Problem.{no_term}
use Rattle.scheduling.specs.Limits.{IsTermOf}
use Rattle.schedule_runs.specs.ProblemRead.{IsValueTerm}
use Rattle.schedule_runs.proofs.terms.value_terms.Given as goal

abbrev pub invariant-loop-k : goal.invariant-loop-k
invariant-loop-k l = record {
  count : length l.terms.items ≡ l.k;
  terms : (j : ℕ) → j < l.k → IsValueTerm l.values j (get_or l.terms.items j no_term);
  lawful : (j : ℕ) → j < l.k → IsTermOf l.sizes.destinations l.sizes.columns l.sizes.limits (get_or l.terms.items j no_term);
}
