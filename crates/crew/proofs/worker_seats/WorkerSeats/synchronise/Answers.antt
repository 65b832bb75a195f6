-- The seat at the board met the holder's; the seat to look from is told of all mergers, and remembers all that was shown.
use Rattle.std.proofs.Common.{◌∙◌, ◌≡◌, ap, subst, sym}
use Rattle.std.specs.Prelude.{IfSome, Some}
use mathlib.Core.List.{IsPrefix}
use Rattle.pit_model.specs.Version.{applied_arcs}
use Rattle.tree_lock.specs.HolderState.{HolderState}
use Rattle.crew.specs.declared.worker_seats.WorkerSeats.TheInside.{Inside}
use Rattle.crew.specs.Working.{IsSynchronised, seated}
use Rattle.crew.proofs.Working.{synchronised, told_as_seen}
use Rattle.crew.proofs.worker_seats.WorkerSeats.synchronise.Goals.{in-Some, in-None}
use Rattle.crew.proofs.worker_seats.WorkerSeats.synchronise.Goals as goal

pub returns-clause-met : goal.returns-clause-met
returns-clause-met g c =
    let mine = g.S.ListId.mine in
    let journal = c.args.holder.now.journal in
    let same = c.settle.ensures.same in
    elim c.match-self.branch [
      | in-Some w ↦
          let begins = subst (IsPrefix w.in-Some.seat) (sym w.tell.ensures.told) w.tell.ensures.before in
          subst (λ (i : Inside g.row.S.Denot). IsSynchronised mine journal (seated i.asks i.looks)) (sym w.self-inside-is)
          (synchronised mine journal c.self.inside.asks c.settle.new.worker (Some w.tell.new.seat) same.0 c.settle.ensures.meets
          (w.tell.ensures.told ∙ ap (λ (h : HolderState). applied_arcs h.journal) same.1)
          (told_as_seen mine c.self.inside.asks c.self.inside.looks w.in-Some.seat w.tell.new.seat w.in-Some.is begins c.self.invariant))
      | in-None w ↦
          subst (λ (i : Inside g.row.S.Denot). IsSynchronised mine journal (seated i.asks i.looks)) (sym w.self-inside-is)
          (synchronised mine journal c.self.inside.asks c.settle.new.worker c.self.inside.looks same.0 c.settle.ensures.meets
          (subst (λ o. IfSome o (λ list. list ≡ applied_arcs journal)) (sym w.in-None.is) tt) c.self.invariant)
    ]

pub invariant_of-self : goal.invariant_of-self
invariant_of-self g c = (returns-clause-met g c).shown
