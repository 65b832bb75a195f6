-- The yield of the periods so far.
use Rattle.std.proofs.Common.{◌≡◌}
use Rattle.pit_model.specs.Sum.{total}
use Rattle.scheduling.specs.Checked.{discounted}
use Rattle.scheduling.proofs.moved.term_value.Given as goal

abbrev pub invariant-loop-period : goal.invariant-loop-period
invariant-loop-period l = l.sum ≡ total l.period (discounted l.problem l.shares l.term.destination l.term.column l.term.lag)
