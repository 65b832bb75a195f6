-- The bound of the nodes at the prices.
use Rattle.std.proofs.Common.{subst, sym}
use Rattle.schedule_bound.specs.Worth.{AreNodesAt}
use Rattle.schedule_bound.proofs.Bounding.{bound_is, scaled_fits, sum_fits}
use Rattle.schedule_bound.proofs.lagrangian_bound.Goals as goal

pub overflow_mul-result : goal.overflow_mul-result
overflow_mul-result c = scaled_fits c.in_ok-shared.shared c.in-Ok.worth c.law-2.ensures c.in-Ok.ensures.worth

pub overflow_add-result : goal.overflow_add-result
overflow_add-result c =
    sum_fits c.args.problem.now c.args.prices.now c.in_ok-shared.shared c.in-Ok.worth c.price_of_capacities.result c.law.ensures c.in_ok-check_prices.ensures.prices c.law-2.ensures (subst (AreNodesAt c.args.problem.now c.args.prices.now) (sym c.in_ok-shared.ensures) c.in_ok-nodes.ensures.nodes) c.in-Ok.ensures.worth c.price_of_capacities.ensures

pub returns-in-Ok-clause-bound : goal.returns-in-Ok-clause-bound
returns-in-Ok-clause-bound c =
    bound_is c.args.problem.now c.args.prices.now c.in_ok-shared.shared c.in-Ok.worth c.price_of_capacities.result c.law.ensures c.in_ok-check_prices.ensures.prices c.law-2.ensures (subst (AreNodesAt c.args.problem.now c.args.prices.now) (sym c.in_ok-shared.ensures) c.in_ok-nodes.ensures.nodes) c.in-Ok.ensures.worth c.price_of_capacities.ensures
