-- The instance stays, and the order is of as many blocks.
use Rattle.std.proofs.Common.{◌≡◌}
use Rattle.merging.proofs.lowest_label.mergers_by_lowest_label.Given as goal

abbrev pub invariant-loop-turn : goal.invariant-loop-turn
invariant-loop-turn l = record {
  mine : l.tree.mine ≡ l.initial.tree.mine;
  same : l.order.blocks ≡ l.tree.mine.blocks;
}
