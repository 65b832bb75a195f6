-- The use of one term more; and that the terms together give what is used.
use Rattle.std.proofs.Common.{◌≡◌, ◌*◌, ◌^◌, ◌∙◌, ap, arith, length, sym, to_z}
use Rattle.std.specs.Int.{w128}
use Rattle.pit_model.specs.Sum.{total}
use Rattle.scheduling.specs.Checked.{part_of_usage}
use Rattle.scheduling.proofs.Weighing.{held_sum}
use Rattle.scheduling.proofs.Moving.{usage_is}
use Rattle.scheduling.proofs.MovedAmounts.{most_moved, part_of_usage_within, usage_within}
use Rattle.scheduling.proofs.moved.usage.Goals as goal

pub overflow_add-sum : goal.overflow_add-sum
overflow_add-sum c =
    let problem = c.args.problem.now in
    let shares = c.args.shares.now in
    (held_sum (most_moved) (2 ^ 10 * most_moved) c.loop-k.k (part_of_usage problem shares c.args.limit c.args.period) (to_z w128 c.loop-k.sum-bits) c.part_of_usage-sum.result
    (omega arith) (omega arith) c.loop-k.invariant c.part_of_usage-sum.ensures
    (part_of_usage_within problem shares c.law.ensures c.requires.shares c.args.limit c.args.period c.loop-k.k (omega arith) c.requires.period)
    (usage_within problem shares c.law.ensures c.requires.shares c.args.limit c.args.period c.loop-k.k (omega arith) c.requires.period)).0

pub loop-k-preserved : goal.loop-k-preserved
loop-k-preserved c =
    let problem = c.args.problem.now in
    let shares = c.args.shares.now in
    (held_sum (most_moved) (2 ^ 10 * most_moved) c.loop-k.k (part_of_usage problem shares c.args.limit c.args.period) (to_z w128 c.loop-k.sum-bits) c.part_of_usage-sum.result
    (omega arith) (omega arith) c.loop-k.invariant c.part_of_usage-sum.ensures
    (part_of_usage_within problem shares c.law.ensures c.requires.shares c.args.limit c.args.period c.loop-k.k (omega arith) c.requires.period)
    (usage_within problem shares c.law.ensures c.requires.shares c.args.limit c.args.period c.loop-k.k (omega arith) c.requires.period)).1

pub returns : goal.returns
returns c =
    let problem = c.args.problem.now in
    let shares = c.args.shares.now in
    let all : c.loop-k.k ≡ length problem.terms = omega arith in
    c.loop-k.invariant ∙ ap (λ n. total n (part_of_usage problem shares c.args.limit c.args.period)) all ∙ sym (usage_is problem shares c.law.ensures c.args.limit c.args.period c.requires.period)
