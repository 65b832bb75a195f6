-- The amount of one block more.
use Rattle.std.proofs.Common.{◌^◌, arith, to_z}
use Rattle.std.specs.Int.{w128}
use Rattle.scheduling.specs.Checked.{moved_of_block}
use Rattle.scheduling.proofs.Weighing.{held_sum}
use Rattle.scheduling.proofs.MovedAmounts.{block_within, most_moved, moved_within}
use Rattle.scheduling.proofs.moved.moved.Goals as goal

pub overflow_add-sum : goal.overflow_add-sum
overflow_add-sum c =
    let problem = c.args.problem.now in
    let shares = c.args.shares.now in
    (held_sum (10 ^ 22) (most_moved) c.loop-block.block (moved_of_block problem shares c.args.period c.args.term.destination c.args.term.column) (to_z w128 c.loop-block.sum-bits) c.moved_of_block-sum.result
    (omega arith) (omega arith) c.loop-block.invariant c.moved_of_block-sum.ensures
    (block_within problem shares c.law.ensures c.requires.shares c.args.period c.args.term.destination c.args.term.column c.loop-block.block (omega arith) c.requires.period c.requires.term.destination c.requires.term.column)
    (moved_within problem shares c.law.ensures c.requires.shares c.args.period c.args.term.destination c.args.term.column c.loop-block.block (omega arith) c.requires.period c.requires.term.destination c.requires.term.column)).0

pub loop-block-preserved : goal.loop-block-preserved
loop-block-preserved c =
    let problem = c.args.problem.now in
    let shares = c.args.shares.now in
    (held_sum (10 ^ 22) (most_moved) c.loop-block.block (moved_of_block problem shares c.args.period c.args.term.destination c.args.term.column) (to_z w128 c.loop-block.sum-bits) c.moved_of_block-sum.result
    (omega arith) (omega arith) c.loop-block.invariant c.moved_of_block-sum.ensures
    (block_within problem shares c.law.ensures c.requires.shares c.args.period c.args.term.destination c.args.term.column c.loop-block.block (omega arith) c.requires.period c.requires.term.destination c.requires.term.column)
    (moved_within problem shares c.law.ensures c.requires.shares c.args.period c.args.term.destination c.args.term.column c.loop-block.block (omega arith) c.requires.period c.requires.term.destination c.requires.term.column)).1
