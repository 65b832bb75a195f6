-- Each option stands behind those before it.
use Rattle.std.proofs.Common.{codes, ◌∷◌, []}
use Rattle.command_line.specs.Options.{needed}
use Rattle.command_line.proofs.Adding.{adds, adds_last}
use Rattle.command_line.proofs.with_blocks.Goals as goal

pub returns : goal.returns
returns c =
    let added0 = (adds (needed (codes "blocks")) c.args.command c.in_ok-arg.field-0 c.file.result c.file.ensures c.in_ok-arg.ensures) in
    adds_last (needed (codes "blocks") ∷ []) (needed (codes "prec")) c.args.command c.in_ok-arg.field-0 c.prec_file.result c.arg-2.result added0 c.prec_file.ensures c.arg-2.ensures
