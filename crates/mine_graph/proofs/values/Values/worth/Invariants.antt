-- The sum so far is that of the blocks so far.
use Rattle.std.proofs.Common.{◌≡◌, get_or}
use Rattle.std.specs.Prelude.{pos}
use Rattle.pit_model.specs.Sum.{total}
use Rattle.mine_graph.proofs.values.Values.worth.Given as goal

abbrev pub invariant-loop-u : goal.invariant-loop-u
invariant-loop-u l = l.sum ≡ total l.u-index (λ i. get_or l.self (get_or l.blocks i 0) (pos 0))
