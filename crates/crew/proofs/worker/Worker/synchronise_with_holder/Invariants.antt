-- Nothing was collected yet.
use Rattle.std.proofs.Common.{◌≡◌}
use Rattle.crew.proofs.worker.Worker.synchronise_with_holder.Given as goal

abbrev pub invariant-loop-look : goal.invariant-loop-look
invariant-loop-look g l = l.self.seats ≡ l.fn.self.seats
