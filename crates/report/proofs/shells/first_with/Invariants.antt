-- The shells before `low` lack the block, and those from `high` on have it.
use Rattle.std.proofs.Common.{◌-◌}
use Rattle.report.specs.FirstWith.{AreParted}
use Rattle.report.proofs.shells.first_with.Given as goal

abbrev pub invariant-halving : goal.invariant-halving
invariant-halving l = AreParted l.shells l.block l.low l.high

abbrev pub decreases-halving : goal.decreases-halving
decreases-halving l = l.high - l.low
