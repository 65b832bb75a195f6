-- The worker asks, and its ask ends by a reply at once, or by one that it waits for.
use Rattle.std.proofs.Common.{subst}
use Rattle.crew.specs.Working.{EndsAsk, Seated}
use Rattle.crew.proofs.Working.{asks_for, ends_by}
use Rattle.crew.proofs.worker.Worker.propose.Goals as goal

pub returns-in-Some-default : goal.returns-in-Some-default
returns-in-Some-default g c = (
  c.ask.new.self,
  asks_for c.args.arc c.args.self.now.seats c.ask.new.self c.ask.result c.ask.ensures,
  ends_by c.ask.new.self c.collect.new.self.seats c.in-Some-default.goes_on c.in-Some-default.ensures,
)

pub returns-in-None-Some : goal.returns-in-None-Some
returns-in-None-Some g c = (
  c.ask.new.self,
  asks_for c.args.arc c.args.self.now.seats c.ask.new.self c.ask.result c.ask.ensures,
  subst (λ (s : Seated). EndsAsk s c.serve_held.new.self.seats c.serve_held.result.0) c.in-None-Some.ensures c.serve_held.ensures.ended,
)

pub returns-in-None-None : goal.returns-in-None-None
returns-in-None-None g c = (
  c.ask.new.self,
  asks_for c.args.arc c.args.self.now.seats c.ask.new.self c.ask.result c.ask.ensures,
  subst (λ (s : Seated). EndsAsk s c.synchronise_with_holder.new.self.seats c.synchronise_with_holder.result.0) c.in-None-None.ensures c.synchronise_with_holder.ensures,
)
