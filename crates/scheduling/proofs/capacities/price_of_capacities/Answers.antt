-- The price of one capacity more; and the sum limit by limit.
use Rattle.std.proofs.Common.{◌≡◌, ◌*◌, ◌^◌, ◌∙◌, ap, arith, to_z}
use Rattle.std.specs.Int.{w128}
use Rattle.pit_model.specs.Sum.{total}
use Rattle.scheduling.specs.Weights.{part_of_price}
use Rattle.scheduling.proofs.Weighing.{held_sum}
use Rattle.scheduling.proofs.Priced.{part_within, price_by_limit, prices_within}
use Rattle.scheduling.proofs.capacities.price_of_capacities.Goals as goal

pub overflow_add-sum : goal.overflow_add-sum
overflow_add-sum c =
    let problem = c.args.problem.now in
    let prices = c.args.prices.now in
    (held_sum (10 ^ 33) (2 ^ 16 * 10 ^ 33) c.loop-i.i (part_of_price problem prices) (to_z w128 c.loop-i.sum-bits) c.part_of_price-sum.result
    (omega arith) (omega arith) c.loop-i.invariant c.part_of_price-sum.ensures
    (part_within problem prices c.law.ensures c.requires c.loop-i.i (omega arith))
    (prices_within problem prices c.law.ensures c.requires c.loop-i.i (omega arith))).0

pub loop-i-preserved : goal.loop-i-preserved
loop-i-preserved c =
    let problem = c.args.problem.now in
    let prices = c.args.prices.now in
    (held_sum (10 ^ 33) (2 ^ 16 * 10 ^ 33) c.loop-i.i (part_of_price problem prices) (to_z w128 c.loop-i.sum-bits) c.part_of_price-sum.result
    (omega arith) (omega arith) c.loop-i.invariant c.part_of_price-sum.ensures
    (part_within problem prices c.law.ensures c.requires c.loop-i.i (omega arith))
    (prices_within problem prices c.law.ensures c.requires c.loop-i.i (omega arith))).1

pub returns : goal.returns
returns c =
    let problem = c.args.problem.now in
    let prices = c.args.prices.now in
    let count = c.requires.count in
    let all : c.loop-i.i ≡ problem.limits * problem.periods = omega arith in
    c.loop-i.invariant ∙ ap (λ n. total n (part_of_price problem prices)) all ∙ price_by_limit problem prices
