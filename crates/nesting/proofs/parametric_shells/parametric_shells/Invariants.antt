-- There is a shell for each of the turns so far, and the last of them is held.
use Rattle.std.proofs.Common.{◌≡◌, ◌+◌, map, take}
use Rattle.std.specs.List.{All}
use Rattle.pit_model.specs.Shells.{IsShell, factor_of}
use Rattle.nesting.specs.Planned.{deposit_in}
use Rattle.nesting.specs.Parametric.{IsHeld, in_turns}
use Rattle.nesting.proofs.parametric_shells.parametric_shells.Given as goal

abbrev pub invariant-loop-k : goal.invariant-loop-k
invariant-loop-k l = record {
  held : IsHeld l.plan.direction (deposit_in l.plan) (factor_of (in_turns l.plan.direction l.plan.factors.now) l.k) l.risen.marks.items l.risen.mine;
  each : All (IsShell l.plan.direction (deposit_in l.plan)) l.list.items;
  named : map (λ shell. shell.factor) l.list.items ≡ take (l.k + 1) (in_turns l.plan.direction l.plan.factors.now);
}
