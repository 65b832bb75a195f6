-- The least label so far.
use Rattle.std.proofs.Common.{◌≤◌}
use Rattle.merging.proofs.labels.least_label.Given as goal

abbrev pub invariant-loop-arc : goal.invariant-loop-arc
invariant-loop-arc l = l.least ≤ l.most
