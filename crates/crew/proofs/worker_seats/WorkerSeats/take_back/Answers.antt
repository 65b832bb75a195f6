-- An ask is taken back, or its reply is collected.
use Rattle.std.proofs.Common.{subst}
use Rattle.crew.specs.Working.{Seated, TakesBack, seated}
use Rattle.crew.proofs.Working.{collected_as_seen, takes_back, withdrawn_as_seen}
use Rattle.crew.proofs.worker_seats.WorkerSeats.take_back.Goals as goal

pub invariant_of-self : goal.invariant_of-self
invariant_of-self g c =
    let mine = g.S.ListId.mine in
    collected_as_seen mine c.withdraw.new.seat c.collect.new.seat c.self.inside.looks c.collect.result c.collect.ensures
    (withdrawn_as_seen mine c.self.inside.asks c.withdraw.new.seat c.self.inside.looks c.withdraw.result c.withdraw.ensures c.self.invariant)

pub invariant_of-self-else-not-withdraw : goal.invariant_of-self-else-not-withdraw
invariant_of-self-else-not-withdraw g c = withdrawn_as_seen g.S.ListId.mine c.self.inside.asks c.withdraw.new.seat c.self.inside.looks c.withdraw.result c.withdraw.ensures c.self.invariant

pub returns-then-not-withdraw : goal.returns-then-not-withdraw
returns-then-not-withdraw g c =
    subst (λ (s : Seated). TakesBack s (seated c.collect.new.seat c.self.inside.looks)) c.self.view_is
    (takes_back c.self.inside.asks c.withdraw.new.seat c.collect.new.seat c.self.inside.looks c.withdraw.result c.collect.result c.if-not-withdraw.true c.withdraw.ensures c.collect.ensures)
