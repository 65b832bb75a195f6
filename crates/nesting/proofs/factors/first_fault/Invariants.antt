-- The items so far have no fault.
use Rattle.std.proofs.Common.{◌≡◌, ◌<◌, ℕ, None}
use Rattle.nesting.specs.FactorList.{item_fault, number_before}
use Rattle.nesting.proofs.ItemChecks.{numbers}
use Rattle.nesting.proofs.factors.first_fault.Given as goal

abbrev pub invariant-loop-k : goal.invariant-loop-k
invariant-loop-k l = record {
  before : l.before ≡ number_before (numbers l.list) l.k;
  none : (j : ℕ) → j < l.k → item_fault (numbers l.list) j ≡ None;
}
