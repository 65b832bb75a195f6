-- No block of the runs so far is marked.
use Rattle.std.proofs.Common.{◌≡◌, ℕ, ◌*◌, ◌<◌, ◌≤◌, false, get_or}
use Rattle.norm_tree.proofs.marks.first_of_runs.Given as goal

abbrev pub invariant-loop-run : goal.invariant-loop-run
invariant-loop-run l = (v : ℕ) → 64 * l.from ≤ v → v < 64 * l.run → get_or l.blocks v false ≡ false
