-- The numbers of blocks and labels stay.
use Rattle.std.proofs.Common.{◌≡◌}
use Rattle.merging.proofs.lowest_label.LowestLabel.finish.Given as goal

abbrev pub invariant-loop-place : goal.invariant-loop-place
invariant-loop-place l = l.self ≡ l.initial.self
