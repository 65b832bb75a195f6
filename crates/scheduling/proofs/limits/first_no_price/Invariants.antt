-- The numbers so far are prices.
use Rattle.std.proofs.Common.{ℕ, ◌<◌, get_or}
use Rattle.std.specs.Prelude.{pos}
use Rattle.scheduling.specs.Limits.{IsPrice}
use Rattle.scheduling.proofs.limits.first_no_price.Given as goal

abbrev pub invariant-loop-i : goal.invariant-loop-i
invariant-loop-i l = (i : ℕ) → i < l.i → IsPrice (get_or l.prices i (pos 0))
