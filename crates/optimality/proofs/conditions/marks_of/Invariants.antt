use Rattle.std.proofs.Common.{◌≡◌, ℕ, ◌<◌, true, length, get_or}
use Rattle.std.specs.Prelude.{◌↔◌}
use Rattle.optimality.specs.Check.{has}
use Rattle.optimality.proofs.conditions.marks_of.Given as goal

-- marked are exactly the blocks of the list so far
abbrev pub invariant-loop-u : goal.invariant-loop-u
invariant-loop-u l = record {
  size : length l.marks.items ≡ l.n;
  marked : (v : ℕ) → (has l.marks.items v ≡ true) ↔ ((i : ℕ) × (i < l.u-index) × (get_or l.pit i 0 ≡ v));
}
