-- The files of a mine, and one more.
use Rattle.std.proofs.Common.{codes, [], rules}
use Rattle.command_line.specs.Options.{mine_options, needed, HasOptions}
use Rattle.command_line.proofs.Adding.{has_one_more}
use Rattle.command_line.proofs.check_command.Goals as goal

pub returns : goal.returns
returns c =
    let fresh : HasOptions (codes "check") [] c.after_help-check.result = record { called = search rules; choices_are = search rules; local = search rules } in
    let mine = c.in_ok-with_mine.ensures (codes "check") [] fresh in
    has_one_more (codes "check") mine_options (needed (codes "certificate")) c.in_ok-with_mine.field-0 c.file.result c.arg.result mine c.file.ensures c.arg.ensures
