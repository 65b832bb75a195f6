-- The amounts so far are as they must be.
use Rattle.std.proofs.Common.{ℕ, ◌<◌, pos}
use Rattle.optimality.specs.Check.{amount, most_amount}
use Rattle.pit_model.specs.Limits.{Between}
use Rattle.arrays.proofs.certified.first_unfit.Given as goal

abbrev pub invariant-loop-k : goal.invariant-loop-k
invariant-loop-k l = (j : ℕ) → j < l.k → Between (pos 0) (amount l.flow j) most_amount
