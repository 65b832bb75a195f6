-- Each option follows those before it.
use Rattle.std.proofs.Common.{codes, ◌∷◌, []}
use Rattle.command_line.specs.Options.{needed}
use Rattle.command_line.proofs.Adding.{adds, adds_last, placed}
use Rattle.command_line.proofs.schedules.with_problem.Goals as goal

pub returns : goal.returns
returns c =
    let option0 = placed (needed (codes "problem")) c.problem_file.result c.display_order.result _ c.display_order.ensures c.problem_file.ensures in
    let option1 = placed (needed (codes "prec")) c.prec_file.result c.display_order-2.result _ c.display_order-2.ensures c.prec_file.ensures in
    let added0 = (adds (needed (codes "problem")) c.args.command c.in_ok-arg.field-0 c.display_order.result option0 c.in_ok-arg.ensures) in
    adds_last (needed (codes "problem") ∷ []) (needed (codes "prec")) c.args.command c.in_ok-arg.field-0 c.display_order-2.result c.arg-2.result added0 option1 c.arg-2.ensures
