-- A load, which collects the reply where the word has a verdict.
use Rattle.std.proofs.Common.{Option, sym, ap, ◌∙◌, ◌<◌, subst, ℕ}
use Rattle.proposals.specs.Seats.{IsWorker}
use Rattle.proposals.proofs.Seated.{collect_as}
use Rattle.proposals.proofs.board.Board.collect.Goals as goal

pub load-found-requires : goal.load-found-requires
load-found-requires g c =
    let i = c.seat.invariant in
    let w = subst (λ (o : Option ℕ). IsWorker g.B.BoardId.board c.seat.inside.cell o c.seat.inside.seat) c.in-Some.is i in
    (i.table ∙ sym c.args.self.now.named, subst (λ z. c.seat.inside.cell < z) (ap (λ t. t.words) (sym c.args.self.now.named)) i.inside, collect_as g.B.BoardId.board _ _ c.seat.inside.cell c.seat.inside.seat c.in-Some.arc w)
