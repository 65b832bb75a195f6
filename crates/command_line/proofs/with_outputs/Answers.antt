-- Each option stands behind those before it.
use Rattle.std.proofs.Common.{codes, ◌∷◌, []}
use Rattle.command_line.specs.Options.{offered}
use Rattle.command_line.proofs.Adding.{adds, adds_last}
use Rattle.command_line.proofs.with_outputs.Goals as goal

pub returns : goal.returns
returns c =
    let added0 = (adds (offered (codes "certificate")) c.args.command c.in_ok-arg.field-0 c.output.result c.output.ensures c.in_ok-arg.ensures) in
    adds_last (offered (codes "certificate") ∷ []) (offered (codes "journal")) c.args.command c.in_ok-arg.field-0 c.output-2.result c.arg-2.result added0 c.output-2.ensures c.arg-2.ensures
