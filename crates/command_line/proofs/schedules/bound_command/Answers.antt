-- The files of a problem, and one more.
use Rattle.std.proofs.Common.{codes, [], rules}
use Rattle.command_line.specs.Options.{needed, HasOptions}
use Rattle.command_line.specs.ScheduleOptions.{problem_options}
use Rattle.command_line.proofs.Adding.{has_one_more, placed}
use Rattle.command_line.proofs.schedules.bound_command.Goals as goal

pub returns : goal.returns
returns c =
    let fresh : HasOptions (codes "bound") [] c.after_help-bound.result = record { called = search rules; choices_are = search rules; local = search rules } in
    let problem = c.in_ok-with_problem.ensures (codes "bound") [] fresh in
    let option0 = placed (needed (codes "prices")) c.file.result c.display_order.result _ c.display_order.ensures c.file.ensures in
    has_one_more (codes "bound") problem_options (needed (codes "prices")) c.in_ok-with_problem.field-0 c.display_order.result c.arg.result problem option0 c.arg.ensures
