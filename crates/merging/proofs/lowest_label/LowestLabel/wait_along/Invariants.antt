-- The numbers of blocks and labels stay.
use Rattle.std.proofs.Common.{◌≡◌}
use Rattle.merging.proofs.lowest_label.LowestLabel.wait_along.Given as goal

abbrev pub invariant-loop-block : goal.invariant-loop-block
invariant-loop-block l = l.self ≡ l.initial.self
