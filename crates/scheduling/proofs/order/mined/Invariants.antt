-- The shares of the destinations so far.
use Rattle.std.proofs.Common.{◌≡◌, ◌*◌, ◌≤◌}
use Rattle.std.specs.Prelude.{pos}
use Rattle.pit_model.specs.Sum.{total}
use Rattle.schedule_model.specs.Schedule.{share, whole_block}
use Rattle.scheduling.proofs.order.mined.Given as goal

abbrev pub invariant-loop-destination : goal.invariant-loop-destination
invariant-loop-destination l = record {
  mined : pos l.sum ≡ total l.destination (λ d. share l.problem l.shares l.block l.period d);
  few : l.sum ≤ l.destination * whole_block;
}
