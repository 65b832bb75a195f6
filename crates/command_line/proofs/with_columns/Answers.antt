-- Each option stands behind those before it.
use Rattle.std.proofs.Common.{codes, ◌∷◌, []}
use Rattle.command_line.specs.Options.{column_option}
use Rattle.command_line.proofs.Adding.{adds, adds_last}
use Rattle.command_line.proofs.with_columns.Goals as goal

pub returns : goal.returns
returns c =
    let added0 = (adds (column_option (codes "revenue")) c.args.command c.in_ok-arg.field-0 c.attribute.result c.attribute.ensures c.in_ok-arg.ensures) in
    adds_last (column_option (codes "revenue") ∷ []) (column_option (codes "cost")) c.args.command c.in_ok-arg.field-0 c.attribute-2.result c.arg-2.result added0 c.attribute-2.ensures c.arg-2.ensures
