-- All that is computed on the way fits.
use Rattle.std.proofs.Common.{subst, sym}
use Rattle.nesting.proofs.PriceBounds.{IsSmall, difference_fits, price_held, price_small}
use Rattle.nesting.proofs.columns.price.Goals as goal

pub overflow_sub-result : goal.overflow_sub-result
overflow_sub-result c = difference_fits c.args.factor c.from.result c.args.revenue c.args.cost c.from.ensures c.requires.factor c.requires.revenue.0 c.requires.revenue.1 c.requires.cost.0 c.requires.cost.1

pub returns-clause-value : goal.returns-clause-value
returns-clause-value c = price_held c.args.factor c.from.result c.args.revenue c.args.cost c.from.ensures c.requires.factor c.requires.revenue.0 c.requires.revenue.1 c.requires.cost.0 c.requires.cost.1

pub returns-clause-small : goal.returns-clause-small
returns-clause-small c =
    let args = price_small c.args.factor c.from.result c.args.revenue c.args.cost c.from.ensures c.requires.factor c.requires.revenue.0 c.requires.revenue.1 c.requires.cost.0 c.requires.cost.1 in
    subst IsSmall (sym (price_held c.args.factor c.from.result c.args.revenue c.args.cost c.from.ensures c.requires.factor c.requires.revenue.0 c.requires.revenue.1 c.requires.cost.0 c.requires.cost.1)) args
