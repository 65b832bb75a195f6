-- The seat that the version leaves behind knows the version's arcs, and remembers all that was shown.
use Rattle.std.proofs.Common.{◌∙◌, List, ℕ, ap, sym, subst}
use Rattle.std.specs.Prelude.{Some}
use mathlib.Core.List.{IsPrefix}
use Rattle.crew.specs.Working.{AsksWhatItSaw, LooksFor, Seated, seated, seen}
use Rattle.crew.proofs.Working.{told_as_seen}
use Rattle.crew.proofs.worker_seats.WorkerSeats.sees_merger.Goals as goal

pub invariant_of-self-in-Ok : goal.invariant_of-self-in-Ok
invariant_of-self-in-Ok g c =
    let begins = subst (IsPrefix c.in-Some.seat) (sym c.leave.ensures) c.in-Ok.ensures in
    told_as_seen g.S.ListId.mine c.self.inside.asks c.self.inside.looks c.in-Some.seat c.leave.result (sym c.take.ensures.value ∙ c.in-Some.is) begins c.self.invariant

pub invariant_of-self-in-Err : goal.invariant_of-self-in-Err
invariant_of-self-in-Err g c =
    let same = sym c.take.ensures.value ∙ c.in-Some.is ∙ ap (λ (l : List ℕ). Some l) (sym c.in-Err.ensures) in
    subst (λ o. AsksWhatItSaw g.S.ListId.mine (seated c.self.inside.asks o)) same c.self.invariant

pub returns-in-Ok-clause-shown : goal.returns-in-Ok-clause-shown
returns-in-Ok-clause-shown g c =
    subst (λ (s : Seated). LooksFor g.S.ListId.mine c.args.arc s.looks (Some c.leave.result) c.is_merger-is_merger.result) c.self.view_is
    (seen c.in-Some.seat c.in-Ok.version (sym c.take.ensures.value ∙ c.in-Some.is) (ap Some c.leave.ensures) c.in-Ok.ensures c.is_merger-is_merger.ensures)
