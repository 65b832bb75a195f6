-- The rows of some blocks are prices as well.
use Rattle.std.proofs.Common.{◌<◌, List, length, subst, sym, ap, ◌∙◌}
use Rattle.std.specs.Prelude.{ℤ}
use Rattle.std.specs.List.{All}
use Rattle.nesting.specs.Prices.{Prices}
use Rattle.nesting.specs.Outermost.{amounts_of}
use Rattle.nesting.proofs.Amounts.{prices_some}
use Rattle.nesting.proofs.columns.Columns.at.Goals as goal

pub invariant_of-result : goal.invariant_of-result
invariant_of-result c =
    let blocks = c.args.blocks.now in
    let inside = c.self.inside in
    let same = ap (λ (p : Prices). p.revenues) c.self.view_is in
    prices_some inside.revenues.items inside.costs.items c.in_ok-revenues.revenues.items c.in_ok-costs.costs.items blocks c.self.invariant c.requires.few
    (subst (λ (xs : List ℤ). All (λ u. u < length xs) blocks) (sym same) c.requires.blocks)
    (c.in_ok-revenues.ensures ∙ ap (λ (xs : List ℤ). amounts_of xs blocks) c.deref.ensures.value)
    (c.in_ok-costs.ensures ∙ ap (λ (xs : List ℤ). amounts_of xs blocks) c.deref-2.ensures.value)
