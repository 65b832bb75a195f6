-- A solver without a budget is refused for want of memory alone.
use Rattle.std.proofs.Common.{◌≡◌}
use Rattle.std.proofs.lemmas.Result.{IfErr-weaker}
use Rattle.faults.specs.Refused.{no_memory}
use Rattle.faults.specs.declared.fault.Fault.{Fault}
use Rattle.nesting.specs.Grown.{RefusesRests}
use Rattle.nesting.specs.Planned.{deposit_in}
use Rattle.nesting.proofs.Refusing.{rests_lack_memory}
use Rattle.nesting.proofs.nested.inner_shells.Goals as goal

pub returns-clause-refused : goal.returns-clause-refused
returns-clause-refused g c =
    let Refuses = g.S.PitSolver.Refuses c.args.solver.now in
    let plan = c.args.plan.now in
    IfErr-weaker c.shells_by_rests.result
    (λ (e : Fault). RefusesRests Refuses plan.direction (deposit_in plan) plan.factors.now e)
    (λ (e : Fault). e ≡ no_memory)
    (λ e refused. rests_lack_memory Refuses plan.direction (deposit_in plan) plan.factors.now e c.requires.unlimited refused) c.shells_by_rests.ensures.refused
