-- The sum so far is that of the blocks so far.
use Rattle.std.proofs.Common.{◌≡◌, ◌^◌, ◌*◌}
use Rattle.std.specs.Prelude.{pos, ◌≤ℤ◌}
use Rattle.pit_model.specs.Mine.{value}
use Rattle.pit_model.specs.Rank.{positive_part}
use Rattle.pit_model.specs.Sum.{total}
use Rattle.merging.proofs.budget_bound.positive_worth.Given as goal

abbrev pub invariant-loop-block : goal.invariant-loop-block
invariant-loop-block l = record {
  sum : l.worth ≡ total l.block (λ u. positive_part (value l.instance u));
  least : pos 0 ≤ℤ l.worth;
  most : l.worth ≤ℤ pos (l.block * 10 ^ 23);
}
