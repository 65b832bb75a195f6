-- One period.
use Rattle.std.proofs.Common.{ℕ, ap}
use Rattle.scheduling.proofs.Ordered.{once_by, ordered, unordered}
use Rattle.scheduling.proofs.order.check_period.Goals as goal

pub returns-in-Some-out_of_order-clause-refused : goal.returns-in-Some-out_of_order-clause-refused
returns-in-Some-out_of_order-clause-refused c =
    let found = c.in-Some-out_of_order.ensures.some in
    let first = unordered c.args.problem.now c.args.shares.now c.args.period c.add_mined.new.by_now c.law.ensures.graph.in_range c.in_default.ensures.added found.0 found.1 found.3 in
    let once = once_by c.args.problem.now c.args.shares.now c.args.period c.add_mined.new.by_now c.law.ensures.graph.in_range c.in_default.ensures.added in
    (found.0, found.1, ap (λ (x : ℕ × ℕ). x.0) found.2, ap (λ (x : ℕ × ℕ). x.1) found.2, c.requires.period, c.requires.kept, once, first)

pub returns-in-None-clause-once : goal.returns-in-None-clause-once
returns-in-None-clause-once c = once_by c.args.problem.now c.args.shares.now c.args.period c.add_mined.new.by_now c.law.ensures.graph.in_range c.in_default.ensures.added

pub returns-in-None-clause-order : goal.returns-in-None-clause-order
returns-in-None-clause-order c =
    ordered c.args.problem.now c.args.shares.now c.args.period c.add_mined.new.by_now c.law.ensures.graph.in_range c.in_default.ensures.added c.in-None.ensures.none
