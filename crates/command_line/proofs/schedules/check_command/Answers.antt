-- The files of a problem, and two more.
use Rattle.std.proofs.Common.{codes, ◌∷◌, [], ◌++◌, rules}
use Rattle.command_line.specs.Options.{needed, offered, HasOptions}
use Rattle.command_line.specs.ScheduleOptions.{problem_options}
use Rattle.command_line.proofs.Adding.{adds, has_one_more, placed}
use Rattle.command_line.proofs.schedules.check_command.Goals as goal

pub returns : goal.returns
returns c =
    let fresh : HasOptions (codes "check") [] c.after_help-check.result = record { called = search rules; choices_are = search rules; local = search rules } in
    let problem = c.in_ok-with_problem.ensures (codes "check") [] fresh in
    let option0 = placed (needed (codes "schedule")) c.schedule_file.result c.display_order.result _ c.display_order.ensures c.schedule_file.ensures in
    let option1 = placed (offered (codes "prices")) c.option.result c.display_order-2.result _ c.display_order-2.ensures c.option.ensures in
    let scheduled = adds (needed (codes "schedule")) c.in_ok-with_problem.field-0 c.in_ok-arg.field-0 c.display_order.result option0 c.in_ok-arg.ensures (codes "check") problem_options problem in
    has_one_more (codes "check") (problem_options ++ needed (codes "schedule") ∷ []) (offered (codes "prices")) c.in_ok-arg.field-0 c.display_order-2.result c.arg-2.result scheduled option1 c.arg-2.ensures
