-- The terms so far, behind those before.
use Rattle.std.proofs.Common.{◌≡◌, ℕ, ◌+◌, ◌<◌, get_or, length}
use Rattle.schedule_model.specs.Problem.{no_term}
use Rattle.scheduling.specs.Limits.{IsTermOf}
use Rattle.schedule_runs.specs.ProblemRead.{IsUseTerm}
use Rattle.schedule_runs.proofs.terms.add_use_terms.Given as goal

abbrev pub invariant-loop-k : goal.invariant-loop-k
invariant-loop-k l = record {
  count : length l.terms.items ≡ length l.fn.terms.items + l.k;
  kept : (j : ℕ) → j < length l.fn.terms.items → get_or l.terms.items j no_term ≡ get_or l.fn.terms.items j no_term;
  terms : (j : ℕ) → j < l.k → IsUseTerm l.uses j (get_or l.terms.items (length l.fn.terms.items + j) no_term);
  lawful : (j : ℕ) → j < l.k → IsTermOf l.sizes.destinations l.sizes.columns l.sizes.limits (get_or l.terms.items (length l.fn.terms.items + j) no_term);
}
