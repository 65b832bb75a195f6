-- One term more.
use Rattle.std.proofs.Common.{◌^◌, arith, to_z}
use Rattle.std.specs.Int.{w128}
use Rattle.scheduling.specs.Gains.{most_gain}
use Rattle.scheduling.specs.Weights.{part_of_gain}
use Rattle.scheduling.proofs.Weighing.{held_sum, part_within, sum_within}
use Rattle.scheduling.proofs.gains.weighted_gain.Goals as goal

pub overflow_add-gain : goal.overflow_add-gain
overflow_add-gain c =
    let problem = c.args.problem.now in
    let weights = c.args.weights.now in
    (held_sum (10 ^ 31) most_gain c.loop-k.k (part_of_gain problem weights c.args.block c.args.destination) (to_z w128 c.loop-k.gain-bits) c.part_of_gain-gain.result
    (omega arith) (omega arith) c.loop-k.invariant c.part_of_gain-gain.ensures
    (part_within problem weights c.law.ensures c.requires.weights c.args.block c.args.destination c.loop-k.k c.requires.block (omega arith))
    (sum_within problem weights c.law.ensures c.requires.weights c.args.block c.args.destination c.loop-k.k c.requires.block (omega arith))).0

pub loop-k-preserved : goal.loop-k-preserved
loop-k-preserved c =
    let problem = c.args.problem.now in
    let weights = c.args.weights.now in
    (held_sum (10 ^ 31) most_gain c.loop-k.k (part_of_gain problem weights c.args.block c.args.destination) (to_z w128 c.loop-k.gain-bits) c.part_of_gain-gain.result
    (omega arith) (omega arith) c.loop-k.invariant c.part_of_gain-gain.ensures
    (part_within problem weights c.law.ensures c.requires.weights c.args.block c.args.destination c.loop-k.k c.requires.block (omega arith))
    (sum_within problem weights c.law.ensures c.requires.weights c.args.block c.args.destination c.loop-k.k c.requires.block (omega arith))).1
