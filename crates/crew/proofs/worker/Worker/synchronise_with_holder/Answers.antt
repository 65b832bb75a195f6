-- Nothing was collected before.
use Rattle.std.proofs.Common.{subst}
use Rattle.crew.specs.Working.{EndsAsk, Seated}
use Rattle.crew.proofs.Working.{ends_by}
use Rattle.crew.proofs.worker.Worker.synchronise_with_holder.Goals as goal

pub returns-in-Some : goal.returns-in-Some
returns-in-Some g c = subst (λ (s : Seated). EndsAsk s c.serve_held.new.self.seats c.serve_held.result.0) c.loop-look.invariant c.serve_held.ensures.ended

pub returns-in-Some-collect : goal.returns-in-Some-collect
returns-in-Some-collect g c =
    subst (λ (s : Seated). EndsAsk s c.collect.new.self.seats c.in-Some-collect.goes_on) c.loop-look.invariant
    (ends_by c.loop-look.self.seats c.collect.new.self.seats c.in-Some-collect.goes_on c.in-Some-collect.ensures)

pub returns : goal.returns
returns g c = subst (λ (s : Seated). EndsAsk s c.serve_held-2.new.self.seats c.serve_held-2.result.0) c.loop-look.invariant c.serve_held-2.ensures.ended
