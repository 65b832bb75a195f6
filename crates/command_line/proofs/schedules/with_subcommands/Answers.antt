-- Each subcommand follows those before it.
use Rattle.std.proofs.Common.{codes}
use Rattle.command_line.specs.ScheduleOptions.{bound_options, schedule_options}
use Rattle.command_line.proofs.Adding.{adds_two_subcommands}
use Rattle.command_line.proofs.schedules.with_subcommands.Goals as goal

pub returns : goal.returns
returns c =
    adds_two_subcommands (codes "check") (codes "bound") schedule_options bound_options c.args.command c.in_ok-check_command.field-0 c.in_ok-bound_command.field-0 c.in_ok-subcommand.field-0 c.subcommand-2.result
    c.in_ok-check_command.ensures c.in_ok-bound_command.ensures c.in_ok-subcommand.ensures c.subcommand-2.ensures
