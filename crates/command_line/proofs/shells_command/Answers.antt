-- Its files, its columns and factors, how to solve, and what is told.
use Rattle.std.proofs.Common.{codes, ◌∷◌, [], ◌++◌, rules}
use Rattle.command_line.specs.Options.{settings_options, blocks_options, column_options, needed, watch_options, HasOptions}
use Rattle.command_line.proofs.Adding.{adds, has_more}
use Rattle.command_line.proofs.shells_command.Goals as goal

pub returns : goal.returns
returns c =
    let fresh : HasOptions (codes "shells") [] c.after_help-shells.result = record { called = search rules; choices_are = search rules; local = search rules } in
    let blocks = c.in_ok-with_blocks.ensures (codes "shells") [] fresh in
    let columns = c.in_ok-with_columns.ensures (codes "shells") blocks_options blocks in
    let factors = adds (needed (codes "factors")) c.in_ok-with_columns.field-0 c.in_ok-shells.shells c.factors_list.result c.factors_list.ensures c.in_ok-shells.ensures
    (codes "shells") (blocks_options ++ column_options) columns in
    let asked = c.in_ok-with_settings.ensures (codes "shells") (blocks_options ++ column_options ++ needed (codes "factors") ∷ []) factors in
    has_more (codes "shells") (blocks_options ++ column_options ++ needed (codes "factors") ∷ settings_options) watch_options c.in_ok-with_settings.field-0 c.with_watch.result asked c.with_watch.ensures
