-- The factor of the first shell that has the block, where one has it.
use Rattle.std.proofs.Common.{◌∙◌, sym, ap}
use Rattle.pit_model.specs.declared.shell.Shell.{Shell}
use Rattle.report.proofs.Firsts.{factor_first, factor_none}
use Rattle.report.proofs.shells.first_factor_of.Goals as goal

pub returns-then-place-shells : goal.returns-then-place-shells
returns-then-place-shells c =
    ap (λ (s : Shell). s.factor) (sym c.index-shells-place.is)
    ∙ factor_first c.args.block c.args.shells.now c.first_with-place.result c.index-shells-place.result c.first_with-place.ensures c.if-place-shells.true (sym c.index-shells-place.is)

pub returns-else-place-shells : goal.returns-else-place-shells
returns-else-place-shells c = factor_none c.args.block c.args.shells.now c.first_with-place.result c.first_with-place.ensures c.if-place-shells.false
