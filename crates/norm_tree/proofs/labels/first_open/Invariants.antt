-- No pair is open that leads from a block before.
use Rattle.norm_tree.specs.Labelled.{with_labels, IsClosedBelow}
use Rattle.norm_tree.proofs.labels.first_open.Given as goal

abbrev pub invariant-loop-block : goal.invariant-loop-block
invariant-loop-block l = IsClosedBelow (with_labels l.graph l.strong) l.block
