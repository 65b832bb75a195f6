-- The branch and the next child are blocks of the forest.
use Rattle.std.proofs.Common.{◌≡◌, ◌<◌, ◌≤◌, ℕ, Some, length}
use Rattle.forest.specs.Forest.{size}
use Rattle.merging.specs.Order.{AreBelow}
use Rattle.merging.proofs.labels.add_children.Given as goal

abbrev pub invariant-loop-child : goal.invariant-loop-child
invariant-loop-child l = record {
  room : length l.branch ≡ size l.forest;
  few : l.found ≤ size l.forest;
  branch : AreBelow l.branch (size l.forest);
  next : (u : ℕ) → l.next ≡ Some u → u < size l.forest;
}
