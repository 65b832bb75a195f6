-- What is asked for was seen.
use Rattle.std.proofs.Common.{sym, subst}
use Rattle.crew.specs.Working.{HasSeen, Seated}
use Rattle.crew.proofs.Working.{asked_as_seen}
use Rattle.crew.proofs.worker_seats.WorkerSeats.ask.Goals as goal

pub invariant_of-self : goal.invariant_of-self
invariant_of-self g c =
    let mine = g.S.ListId.mine in
    let saw = subst (λ (s : Seated). HasSeen mine c.args.arc s.looks) (sym c.self.view_is) c.requires.seen in
    asked_as_seen mine c.args.arc c.self.inside.asks c.ask.new.seat c.self.inside.looks c.ask.result c.ask.ensures saw c.self.invariant
