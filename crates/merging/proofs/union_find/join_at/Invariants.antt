-- All lead to blocks.
use Rattle.std.proofs.Common.{◌≡◌, length}
use Rattle.merging.specs.Order.{AreBelow}
use Rattle.merging.proofs.union_find.join_at.Given as goal

abbrev pub invariant-loop-block : goal.invariant-loop-block
invariant-loop-block l = record {
  count : length l.parents ≡ length l.initial.parents;
  below : AreBelow l.parents (length l.initial.parents);
}
