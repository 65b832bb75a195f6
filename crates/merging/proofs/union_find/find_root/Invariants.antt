-- All lead to blocks.
use Rattle.std.proofs.Common.{◌≡◌, ◌<◌, length}
use Rattle.merging.specs.Order.{AreBelow}
use Rattle.merging.proofs.union_find.find_root.Given as goal

abbrev pub invariant-loop-step : goal.invariant-loop-step
invariant-loop-step l = record {
  count : length l.parents ≡ length l.initial.parents;
  below : AreBelow l.parents (length l.initial.parents);
  inside : l.block < length l.initial.parents;
}
