-- Each subcommand stands behind those before it.
use Rattle.std.proofs.Common.{codes}
use Rattle.command_line.specs.Options.{check_options, replay_options}
use Rattle.command_line.proofs.Adding.{adds_two_subcommands}
use Rattle.command_line.proofs.with_judges.Goals as goal

pub returns : goal.returns
returns c =
    adds_two_subcommands (codes "check") (codes "replay") check_options replay_options c.args.command c.in_ok-check_command.field-0 c.in_ok-replay_command.field-0 c.in_ok-subcommand.field-0 c.subcommand-2.result
    c.in_ok-check_command.ensures c.in_ok-replay_command.ensures c.in_ok-subcommand.ensures c.subcommand-2.ensures
