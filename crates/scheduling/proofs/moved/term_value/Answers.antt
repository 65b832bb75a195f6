-- The yield of one period more.
use Rattle.std.proofs.Common.{arith, to_z}
use Rattle.std.specs.Int.{w128}
use Rattle.scheduling.specs.Checked.{discounted}
use Rattle.scheduling.proofs.Weighing.{held_sum}
use Rattle.scheduling.proofs.MovedAmounts.{discounted_within, most_yield, yield_within}
use Rattle.scheduling.proofs.moved.term_value.Goals as goal

pub overflow_add-sum : goal.overflow_add-sum
overflow_add-sum c =
    let problem = c.args.problem.now in
    let shares = c.args.shares.now in
    (held_sum (most_yield) (most_yield) c.loop-period.period (discounted problem shares c.args.term.destination c.args.term.column c.args.term.lag) (to_z w128 c.loop-period.sum-bits) c.discounted-sum.result
    (omega arith) (omega arith) c.loop-period.invariant c.discounted-sum.ensures
    (discounted_within problem shares c.law.ensures c.requires.shares c.args.term.destination c.args.term.column c.args.term.lag c.loop-period.period (omega arith) c.requires.term.destination c.requires.term.column)
    (yield_within problem shares c.law.ensures c.requires.shares c.args.term.destination c.args.term.column c.args.term.lag c.loop-period.period (omega arith) c.requires.term.destination c.requires.term.column)).0

pub loop-period-preserved : goal.loop-period-preserved
loop-period-preserved c =
    let problem = c.args.problem.now in
    let shares = c.args.shares.now in
    (held_sum (most_yield) (most_yield) c.loop-period.period (discounted problem shares c.args.term.destination c.args.term.column c.args.term.lag) (to_z w128 c.loop-period.sum-bits) c.discounted-sum.result
    (omega arith) (omega arith) c.loop-period.invariant c.discounted-sum.ensures
    (discounted_within problem shares c.law.ensures c.requires.shares c.args.term.destination c.args.term.column c.args.term.lag c.loop-period.period (omega arith) c.requires.term.destination c.requires.term.column)
    (yield_within problem shares c.law.ensures c.requires.shares c.args.term.destination c.args.term.column c.args.term.lag c.loop-period.period (omega arith) c.requires.term.destination c.requires.term.column)).1
