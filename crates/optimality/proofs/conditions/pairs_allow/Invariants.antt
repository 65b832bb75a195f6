-- The pairs of the blocks so far.
use Rattle.std.proofs.Common.{ℕ, ◌<◌, ◌&&◌, length}
use Rattle.pit_model.specs.Graph.{first_of, second_of}
use Rattle.optimality.specs.Check.{amount, has, open_in, PairAllows}
use Rattle.optimality.proofs.conditions.pairs_allow.Given as goal

abbrev pub invariant-loop-u : goal.invariant-loop-u
invariant-loop-u l =
    (k : ℕ) → k < length l.graph.pairs → first_of l.graph.pairs k < l.u
    → PairAllows (has l.inside (first_of l.graph.pairs k)) (has l.inside (second_of l.graph.pairs k)) (open_in l.fixed (first_of l.graph.pairs k) && open_in l.fixed (second_of l.graph.pairs k)) (amount l.flow k)
