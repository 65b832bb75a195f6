-- The sum so far is at most the greatest excess times the number of blocks so far.
use Rattle.std.proofs.Common.{◌≡◌, ◌*◌}
use Rattle.std.specs.Prelude.{pos, ◌≤ℤ◌}
use Rattle.pit_model.specs.Sum.{total}
use Rattle.pit_model.specs.Flow.{excess}
use Rattle.pit_model.specs.Tree.{flow}
use Rattle.pit_model.specs.Limits.{most_worth}
use Rattle.pit_model.specs.Rank.{positive_part}
use Rattle.norm_tree.proofs.tree.NormTree.positive_sum.Given as goal

abbrev pub invariant-loop-block : goal.invariant-loop-block
invariant-loop-block l = record {
  sum : l.sum ≡ total l.block (λ u. positive_part (excess l.self.mine (flow l.self.tree) u));
  low : pos 0 ≤ℤ l.sum;
  high : l.sum ≤ℤ pos (l.block * most_worth);
}
