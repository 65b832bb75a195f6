-- The blocks of the places before the next have the label, and all others what they had.
use Rattle.std.proofs.Common.{◌≡◌, ℕ, ◌<◌, length, get_or}
use Rattle.mine_graph.specs.Components.{label_of}
use Rattle.mine_graph.specs.BreadthFirst.{IsAt}
use Rattle.mine_graph.proofs.components.label_all.Given as goal

abbrev pub invariant-loop-i : goal.invariant-loop-i
invariant-loop-i l = record {
  size : length l.labels ≡ length l.fn.labels;
  given : (x : ℕ) → x < l.i → label_of l.labels (get_or l.blocks x 0) ≡ l.label;
  kept : (u : ℕ) → (IsAt (λ x. get_or l.blocks x 0) 0 l.i u → ⊥) → label_of l.labels u ≡ label_of l.fn.labels u;
}
