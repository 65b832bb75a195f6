-- The instance and the numbers of blocks and labels stay.
use Rattle.std.proofs.Common.{◌≡◌}
use Rattle.merging.proofs.lowest_label.take_turns.Given as goal

abbrev pub invariant-loop-turn : goal.invariant-loop-turn
invariant-loop-turn l = record {
  mine : l.tree.mine ≡ l.initial.tree.mine;
  same : l.order ≡ l.initial.order;
}
