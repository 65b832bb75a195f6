-- Each subcommand stands behind those before it.
use Rattle.std.proofs.Common.{codes}
use Rattle.command_line.specs.Options.{solve_options, shells_options}
use Rattle.command_line.proofs.Adding.{adds_two_subcommands}
use Rattle.command_line.proofs.with_solves.Goals as goal

pub returns : goal.returns
returns c =
    adds_two_subcommands (codes "solve") (codes "shells") solve_options shells_options c.args.command c.in_ok-solve_command.field-0 c.in_ok-shells_command.field-0 c.in_ok-subcommand.field-0 c.subcommand-2.result
    c.in_ok-solve_command.ensures c.in_ok-shells_command.ensures c.in_ok-subcommand.ensures c.subcommand-2.ensures
