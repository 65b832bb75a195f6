-- Each option stands behind those before it.
use Rattle.std.proofs.Common.{codes, ◌∷◌, []}
use Rattle.command_line.specs.Options.{offered, progress_option}
use Rattle.command_line.proofs.Adding.{adds, adds_last}
use Rattle.command_line.proofs.with_watch.Goals as goal

pub returns : goal.returns
returns c =
    let added0 = (adds progress_option c.args.command c.in_ok-arg.field-0 c.progress_seconds.result c.progress_seconds.ensures c.in_ok-arg.ensures) in
    adds_last (progress_option ∷ []) (offered (codes "stats")) c.args.command c.in_ok-arg.field-0 c.output.result c.arg-2.result added0 c.output.ensures c.arg-2.ensures
