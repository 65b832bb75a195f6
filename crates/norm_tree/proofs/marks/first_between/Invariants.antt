-- No place so far is marked.
use Rattle.std.proofs.Common.{◌≡◌, ℕ, ◌<◌, ◌≤◌, false, get_or}
use Rattle.norm_tree.proofs.marks.first_between.Given as goal

abbrev pub invariant-loop-place : goal.invariant-loop-place
invariant-loop-place l = (j : ℕ) → l.from ≤ j → j < l.place → get_or l.marks j false ≡ false
