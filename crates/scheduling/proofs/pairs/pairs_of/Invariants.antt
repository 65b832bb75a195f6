-- The pairs so far.
use Rattle.std.proofs.Common.{◌≡◌, take}
use Rattle.scheduling.proofs.pairs.pairs_of.Given as goal

abbrev pub invariant-loop-k : goal.invariant-loop-k
invariant-loop-k l = l.pairs.items ≡ take l.k l.graph.pairs
