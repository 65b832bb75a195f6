-- All lead to blocks.
use Rattle.std.proofs.Common.{◌≡◌, length}
use Rattle.merging.specs.Order.{AreBelow}
use Rattle.merging.proofs.union_find.is_one_part.Given as goal

abbrev pub invariant-loop-place : goal.invariant-loop-place
invariant-loop-place l = record {
  count : length l.parents.items ≡ l.graph.blocks;
  below : AreBelow l.parents.items (length l.parents.items);
}
