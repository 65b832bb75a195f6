-- The runs so far have no mark, and the blocks behind them are as before.
use Rattle.std.proofs.Common.{◌≡◌, ℕ, ◌*◌, ◌<◌, ◌≤◌, false, length, get_or}
use Rattle.norm_tree.specs.Runs.{AreInRuns}
use Rattle.norm_tree.proofs.marks.clear_runs.Given as goal

abbrev pub invariant-loop-run : goal.invariant-loop-run
invariant-loop-run l = record {
  in_runs : AreInRuns l.blocks l.runs;
  count : length l.blocks ≡ length l.initial.blocks;
  cleared : (u : ℕ) → u < 64 * l.run → get_or l.blocks u false ≡ false;
  rest : (u : ℕ) → 64 * l.run ≤ u → get_or l.blocks u false ≡ get_or l.initial.blocks u false;
}
