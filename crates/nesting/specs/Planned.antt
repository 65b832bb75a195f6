-- The deposit that shells are found of.
use Rattle.std.specs.Prelude.{◌≡◌, length}
use Rattle.pit_model.specs.Deposit.{Deposit}
use Rattle.nesting.specs.Prices.{deposit_of}
use Rattle.nesting.specs.declared.plan.ShellPlan.{ShellPlan}

abbrev pub deposit_in : ShellPlan → Deposit
deposit_in plan = deposit_of plan.columns.now plan.graph.now.value

-- each block has its revenue and its cost
abbrev pub HasRows : ShellPlan → Type 0
HasRows plan = length plan.columns.now.revenues ≡ plan.graph.now.value.blocks
