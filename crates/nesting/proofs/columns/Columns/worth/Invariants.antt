-- The sum so far is that of the blocks so far.
use Rattle.std.proofs.Common.{◌≡◌, get_or}
use Rattle.pit_model.specs.Sum.{total}
use Rattle.nesting.specs.Prices.{price_of}
use Rattle.nesting.proofs.columns.Columns.worth.Given as goal

abbrev pub invariant-loop-u : goal.invariant-loop-u
invariant-loop-u l = l.sum ≡ total l.u-index (λ i. price_of l.self l.factor (get_or l.blocks i 0))
