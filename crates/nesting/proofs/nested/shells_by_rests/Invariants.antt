-- There is a shell for each of the factors so far, and the shell before the next one has grown.
use Rattle.std.proofs.Common.{◌≡◌, ◌<◌, ℕ, map, take}
use Rattle.std.specs.List.{All}
use Rattle.pit_model.specs.Shells.{IsShell}
use Rattle.nesting.specs.Prices.{deposit_of}
use Rattle.nesting.specs.Grown.{IsGrown, EndsRest}
use Rattle.nesting.proofs.nested.shells_by_rests.Given as goal

abbrev pub invariant-loop-k : goal.invariant-loop-k
invariant-loop-k g l = record {
  grown : IsGrown l.plan.direction (deposit_of l.plan.columns.now l.plan.graph.now.value) l.plan.factors.now l.k l.growing.marks.items l.growing.blocks.items l.growing.graph.value;
  each : All (IsShell l.plan.direction (deposit_of l.plan.columns.now l.plan.graph.now.value)) l.list.items;
  named : map (λ shell. shell.factor) l.list.items ≡ take l.k l.plan.factors.now;
  within : (j : ℕ) → j < l.k → EndsRest (g.S.PitSolver.Ends l.solver) l.plan.direction (deposit_of l.plan.columns.now l.plan.graph.now.value) l.plan.factors.now j;
}
