-- Each option stands behind those before it.
use Rattle.std.proofs.Common.{codes, ◌∷◌, []}
use Rattle.command_line.specs.Options.{budget_option, standing, workers_option}
use Rattle.command_line.proofs.Adding.{adds, adds_last, both, placed}
use Rattle.command_line.proofs.with_settings.Goals as goal

pub returns : goal.returns
returns c =
    let option0 = placed (standing (codes "mode") (codes "single")) c.mode_word.result c.display_order.result _ c.display_order.ensures c.mode_word.ensures in
    let option1 = placed workers_option c.workers_number.result c.display_order-2.result _ c.display_order-2.ensures c.workers_number.ensures in
    let option2 = placed budget_option c.budget_number.result c.display_order-3.result _ c.display_order-3.ensures c.budget_number.ensures in
    let option3 = placed (standing (codes "pit") (codes "least")) c.pit_word.result c.display_order-4.result _ c.display_order-4.ensures c.pit_word.ensures in
    let added0 = (adds (standing (codes "mode") (codes "single")) c.args.command c.in_ok-arg.field-0 c.display_order.result option0 c.in_ok-arg.ensures) in
    let added1 = both (standing (codes "mode") (codes "single") ∷ []) (workers_option ∷ []) c.args.command c.in_ok-arg.field-0 c.in_ok-arg-2.field-0 added0 (adds workers_option c.in_ok-arg.field-0 c.in_ok-arg-2.field-0 c.display_order-2.result option1 c.in_ok-arg-2.ensures) in
    let added2 = both (standing (codes "mode") (codes "single") ∷ workers_option ∷ []) (budget_option ∷ []) c.args.command c.in_ok-arg-2.field-0 c.in_ok-arg-3.field-0 added1 (adds budget_option c.in_ok-arg-2.field-0 c.in_ok-arg-3.field-0 c.display_order-3.result option2 c.in_ok-arg-3.ensures) in
    adds_last (standing (codes "mode") (codes "single") ∷ workers_option ∷ budget_option ∷ []) (standing (codes "pit") (codes "least")) c.args.command c.in_ok-arg-3.field-0 c.display_order-4.result c.arg-4.result added2 option3 c.arg-4.ensures
