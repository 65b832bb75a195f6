use Rattle.crew.proofs.Working.{collected_as_seen}
use Rattle.crew.proofs.worker_seats.WorkerSeats.collect.Goals as goal

pub invariant_of-self : goal.invariant_of-self
invariant_of-self g c = collected_as_seen g.S.ListId.mine c.self.inside.asks c.collect.new.seat c.self.inside.looks c.collect.result c.collect.ensures c.self.invariant
