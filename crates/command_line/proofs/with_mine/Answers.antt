-- Each option stands behind those before it.
use Rattle.std.proofs.Common.{codes, ◌∷◌, []}
use Rattle.command_line.specs.Options.{needed, offered}
use Rattle.command_line.proofs.Adding.{adds, adds_last, both, placed}
use Rattle.command_line.proofs.with_mine.Goals as goal

pub returns : goal.returns
returns c =
    let option0 = placed (needed (codes "model")) c.model_file.result c.display_order.result _ c.display_order.ensures c.model_file.ensures in
    let option1 = placed (needed (codes "prec")) c.prec_file.result c.display_order-2.result _ c.display_order-2.ensures c.prec_file.ensures in
    let option2 = placed (offered (codes "fixed")) c.fixed_file.result c.display_order-3.result _ c.display_order-3.ensures c.fixed_file.ensures in
    let added0 = (adds (needed (codes "model")) c.args.command c.in_ok-arg.field-0 c.display_order.result option0 c.in_ok-arg.ensures) in
    let added1 = both (needed (codes "model") ∷ []) (needed (codes "prec") ∷ []) c.args.command c.in_ok-arg.field-0 c.in_ok-arg-2.field-0 added0 (adds (needed (codes "prec")) c.in_ok-arg.field-0 c.in_ok-arg-2.field-0 c.display_order-2.result option1 c.in_ok-arg-2.ensures) in
    adds_last (needed (codes "model") ∷ needed (codes "prec") ∷ []) (offered (codes "fixed")) c.args.command c.in_ok-arg-2.field-0 c.display_order-3.result c.arg-3.result added1 option2 c.arg-3.ensures
