-- The numbers of blocks and labels stay.
use Rattle.std.proofs.Common.{◌≡◌}
use Rattle.merging.proofs.lowest_label.LowestLabel.wait_anew.Given as goal

abbrev pub invariant-loop-root : goal.invariant-loop-root
invariant-loop-root l = l.self ≡ l.initial.self
