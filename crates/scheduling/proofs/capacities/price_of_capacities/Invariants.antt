-- The price of the capacities so far.
use Rattle.std.proofs.Common.{◌≡◌}
use Rattle.pit_model.specs.Sum.{total}
use Rattle.scheduling.specs.Weights.{part_of_price}
use Rattle.scheduling.proofs.capacities.price_of_capacities.Given as goal

abbrev pub invariant-loop-i : goal.invariant-loop-i
invariant-loop-i l = l.sum ≡ total l.i (part_of_price l.problem l.prices)
