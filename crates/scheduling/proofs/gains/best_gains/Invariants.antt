-- The best gains of the periods so far.
use Rattle.std.proofs.Common.{◌≡◌, ℕ, ◌*◌, ◌<◌, get_or, length}
use Rattle.std.specs.Prelude.{pos}
use Rattle.schedule_model.specs.Bound.{IsBest, node}
use Rattle.scheduling.specs.Gains.{most_gain}
use Rattle.scheduling.specs.Limits.{AreWithinDistance}
use Rattle.scheduling.proofs.gains.best_gains.Given as goal

abbrev pub invariant-loop-period : goal.invariant-loop-period
invariant-loop-period l = record {
  count : length l.gains.items ≡ l.period * l.problem.blocks;
  best : (b t : ℕ) → b < l.problem.blocks → t < l.period → IsBest l.problem l.prices b t (get_or l.gains.items (node l.problem b t) (pos 0));
  small : AreWithinDistance most_gain l.gains.items;
}
