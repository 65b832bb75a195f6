-- The amounts of the blocks so far.
use Rattle.std.proofs.Common.{◌≡◌}
use Rattle.pit_model.specs.Sum.{total}
use Rattle.scheduling.specs.Checked.{moved_of_block}
use Rattle.scheduling.proofs.moved.moved.Given as goal

abbrev pub invariant-loop-block : goal.invariant-loop-block
invariant-loop-block l = l.sum ≡ total l.block (moved_of_block l.problem l.shares l.period l.term.destination l.term.column)
