-- Below the next block to look at no pair is open.
use Rattle.std.proofs.Common.{◌≤◌}
use Rattle.norm_tree.specs.Labelled.{with_labels, IsClosedBelow}
use Rattle.norm_tree.proofs.index.Index.first.Given as goal

abbrev pub invariant-loop-marked : goal.invariant-loop-marked
invariant-loop-marked l = record {
  passed : l._marked ≤ l.from;
  closed : IsClosedBelow (with_labels l.graph l.strong) l.from;
}
