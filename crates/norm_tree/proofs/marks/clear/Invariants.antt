-- The marks so far are off, and the others as before.
use Rattle.std.proofs.Common.{◌≡◌, ℕ, ◌<◌, ◌≤◌, false, length, get_or}
use Rattle.norm_tree.proofs.marks.clear.Given as goal

abbrev pub invariant-loop-place : goal.invariant-loop-place
invariant-loop-place l = record {
  inside : l.place ≤ l.to;
  count : length l.marks ≡ length l.initial.marks;
  cleared : (i : ℕ) → l.from ≤ i → i < l.place → get_or l.marks i false ≡ false;
  before : (i : ℕ) → i < l.from → get_or l.marks i false ≡ get_or l.initial.marks i false;
  behind : (i : ℕ) → l.place ≤ i → get_or l.marks i false ≡ get_or l.initial.marks i false;
}
