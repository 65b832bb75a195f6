-- Shells among the blocks of the outermost one.
use Rattle.std.specs.Prelude.{◌-◌, List, length}
use Rattle.pit_model.specs.declared.shell.Shell.{Shell}
use Rattle.pit_model.specs.Shells.{AreShells, factor_of}
use Rattle.nesting.specs.declared.outermost.Outermost.{Outermost}
use Rattle.nesting.specs.declared.plan.ShellPlan.{ShellPlan}
use Rattle.nesting.specs.Outermost.{IsOutermost}
use Rattle.nesting.specs.Prices.{deposit_of}

-- the part is that on the pit at a plan's greatest factor, and these are its shells
pub record AreWithin (plan : ShellPlan) (outer : Outermost) (inner : List Shell) : Type 0 where
  pub outermost : IsOutermost plan.direction plan.columns.now plan.graph.now.value (factor_of plan.factors.now (length plan.factors.now - 1)) outer.blocks.items outer.columns outer.graph.value
  pub shells : AreShells plan.direction (deposit_of outer.columns outer.graph.value) plan.factors.now inner
