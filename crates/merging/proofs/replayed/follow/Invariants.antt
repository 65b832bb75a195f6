use Rattle.merging.proofs.Following.{Follows}
use Rattle.merging.proofs.replayed.follow.Given as goal

abbrev pub invariant-loop-i : goal.invariant-loop-i
invariant-loop-i l = Follows l.initial.tree.mine l.budget l.entries l.i l.tree l.made
