-- How to solve, its files, what is written beside the pit, and what is told.
use Rattle.std.proofs.Common.{codes, [], ◌++◌, rules}
use Rattle.command_line.specs.Options.{settings_options, mine_options, output_options, watch_options, HasOptions}
use Rattle.command_line.proofs.Adding.{has_more}
use Rattle.command_line.proofs.solve_command.Goals as goal

pub returns : goal.returns
returns c =
    let fresh : HasOptions (codes "solve") [] c.after_help-solve.result = record { called = search rules; choices_are = search rules; local = search rules } in
    let asked = c.in_ok-with_settings.ensures (codes "solve") [] fresh in
    let mine = c.in_ok-solve.ensures (codes "solve") settings_options asked in
    let outputs = c.in_ok-with_outputs.ensures (codes "solve") (settings_options ++ mine_options) mine in
    has_more (codes "solve") (settings_options ++ mine_options ++ output_options) watch_options c.in_ok-with_outputs.field-0 c.with_watch.result outputs c.with_watch.ensures
