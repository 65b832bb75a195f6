-- The yield of one term more; and that the terms together give the value.
use Rattle.std.proofs.Common.{◌≡◌, ◌*◌, ◌^◌, ◌∙◌, ap, arith, length, sym, to_z}
use Rattle.std.specs.Int.{w128}
use Rattle.pit_model.specs.Sum.{total}
use Rattle.scheduling.specs.Checked.{part_of_value}
use Rattle.scheduling.proofs.Weighing.{held_sum}
use Rattle.scheduling.proofs.Moving.{value_is}
use Rattle.scheduling.proofs.MovedAmounts.{most_yield, part_of_value_within, value_within}
use Rattle.scheduling.proofs.moved.schedule_value.Goals as goal

pub overflow_add-sum : goal.overflow_add-sum
overflow_add-sum c =
    let problem = c.args.problem.now in
    let shares = c.args.shares.now in
    (held_sum (most_yield) (2 ^ 10 * most_yield) c.loop-k.k (part_of_value problem shares) (to_z w128 c.loop-k.sum-bits) c.part_of_value-sum.result
    (omega arith) (omega arith) c.loop-k.invariant c.part_of_value-sum.ensures
    (part_of_value_within problem shares c.law.ensures c.requires c.loop-k.k (omega arith))
    (value_within problem shares c.law.ensures c.requires c.loop-k.k (omega arith))).0

pub loop-k-preserved : goal.loop-k-preserved
loop-k-preserved c =
    let problem = c.args.problem.now in
    let shares = c.args.shares.now in
    (held_sum (most_yield) (2 ^ 10 * most_yield) c.loop-k.k (part_of_value problem shares) (to_z w128 c.loop-k.sum-bits) c.part_of_value-sum.result
    (omega arith) (omega arith) c.loop-k.invariant c.part_of_value-sum.ensures
    (part_of_value_within problem shares c.law.ensures c.requires c.loop-k.k (omega arith))
    (value_within problem shares c.law.ensures c.requires c.loop-k.k (omega arith))).1

pub returns : goal.returns
returns c =
    let problem = c.args.problem.now in
    let shares = c.args.shares.now in
    let all : c.loop-k.k ≡ length problem.terms = omega arith in
    c.loop-k.invariant ∙ ap (λ n. total n (part_of_value problem shares)) all ∙ sym (value_is problem shares c.law.ensures)
