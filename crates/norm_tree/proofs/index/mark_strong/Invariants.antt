-- The strong blocks so far are marked.
use Rattle.std.proofs.Common.{◌≡◌, ℕ, ◌<◌, true, false, length, get_or}
use Rattle.norm_tree.specs.Labelled.{label}
use Rattle.norm_tree.proofs.index.mark_strong.Given as goal

abbrev pub invariant-loop-u : goal.invariant-loop-u
invariant-loop-u l = record {
  room : length l.marks ≡ length l.initial.marks;
  done : (u : ℕ) → u < l.u → label l.strong u ≡ true → get_or l.marks u false ≡ true;
}
