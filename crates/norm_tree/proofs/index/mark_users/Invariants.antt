-- The strong users at the places so far are marked, and no mark is gone.
use Rattle.std.proofs.Common.{◌≡◌, ℕ, ◌<◌, ◌≤◌, true, false, length, get_or}
use Rattle.pit_model.specs.Graph.{second_of}
use Rattle.norm_tree.specs.Labelled.{label}
use Rattle.norm_tree.proofs.index.mark_users.Given as goal

abbrev pub invariant-loop-k : goal.invariant-loop-k
invariant-loop-k l = record {
  room : length l.marks ≡ length l.initial.marks;
  kept : (u : ℕ) → get_or l.initial.marks u false ≡ true → get_or l.marks u false ≡ true;
  done : (i : ℕ) → l.initial.k ≤ i → i < l.k → label l.strong (second_of l.users.pairs i) ≡ true → get_or l.marks (second_of l.users.pairs i) false ≡ true;
}
