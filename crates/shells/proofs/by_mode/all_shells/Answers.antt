-- What the closure says of the rest of each factor, the mode says.
use Rattle.std.proofs.Common.{rules}
use Rattle.std.specs.Global.{Vec}
use Rattle.std.proofs.lemmas.Result.{IfOk-weaker}
use Rattle.pit_model.specs.declared.shell.Shell.{Shell}
use Rattle.nesting.specs.Planned.{deposit_in}
use Rattle.shells.specs.ByMode.{EachEndsWithin}
use Rattle.shells.proofs.ByMode.{each_ends}
use Rattle.shells.proofs.by_mode.all_shells.Goals as goal

pub returns-clause-within : goal.returns-clause-within
returns-clause-within g c =
    let mode = c.args.search.now.mode in
    let plan = c.args.plan.now in
    IfOk-weaker c.shells_by_rests.result _
    (λ (list : Vec Shell). EachEndsWithin mode plan.direction (deposit_in plan) plan.factors.now)
    (λ list ends. each_ends mode plan.direction (deposit_in plan) plan.factors.now _ (λ mine is. search rules) ends) c.shells_by_rests.ensures.within
