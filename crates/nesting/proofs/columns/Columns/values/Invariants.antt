-- The values so far are those of the blocks so far.
use Rattle.std.proofs.Common.{◌≡◌, map, take}
use Rattle.nesting.specs.Prices.{price_of}
use Rattle.nesting.proofs.columns.Columns.values.Given as goal

abbrev pub invariant-loop-u : goal.invariant-loop-u
invariant-loop-u l = l.values.items ≡ map (price_of l.self l.factor) (take l.u-index l.blocks)
