-- The pairs of the block so far lead to strong blocks.
use Rattle.std.proofs.Common.{◌≡◌, ℕ, ◌<◌, true}
use Rattle.pit_model.specs.Graph.{first_of, second_of}
use Rattle.norm_tree.specs.Labelled.{label}
use Rattle.norm_tree.proofs.index.first_weak_need.Given as goal

abbrev pub invariant-loop-k : goal.invariant-loop-k
invariant-loop-k l = (i : ℕ) → i < l.k → first_of l.graph.pairs i ≡ l.block → label l.strong (second_of l.graph.pairs i) ≡ true
