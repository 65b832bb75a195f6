-- Those so far have met the holder, which stays as it was.
use Rattle.std.proofs.Common.{◌≡◌, take}
use Rattle.std.specs.List.{All}
use Rattle.crew.specs.Working.{IsSynchronised}
use Rattle.crew.proofs.sweeps.synchronise_all.Given as goal

abbrev pub invariant-loop-worker : goal.invariant-loop-worker
invariant-loop-worker g l = record {
  same : l.holder ≡ l.fn.holder;
  met : All (λ worker. IsSynchronised g.S.ListId.mine l.fn.holder.journal worker.seats) (take l.worker-index l.workers);
}
