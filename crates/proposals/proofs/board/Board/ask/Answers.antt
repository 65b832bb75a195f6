-- A seat that remembers no ask knows of none, so its word is idle or answered and may become the ask's.
use Rattle.std.proofs.Common.{arith, Option, sym, ap, ◌∙◌, ◌<◌, subst, ℕ}
use Rattle.proposals.specs.Seats.{IsWorker}
use Rattle.proposals.proofs.Seated.{ask_as, asked_as}
use Rattle.proposals.proofs.board.Board.ask.Goals as goal

pub store-requires : goal.store-requires
store-requires g c =
    let i = c.seat.invariant in
    let w = subst (λ (o : Option ℕ). IsWorker g.B.BoardId.board c.seat.inside.cell o c.seat.inside.seat) c.in-None.is i in
    (i.table ∙ sym c.args.self.now.named, subst (λ z. c.seat.inside.cell < z) (ap (λ t. t.words) (sym c.args.self.now.named)) i.inside, ask_as g.B.BoardId.board _ _ c.seat.inside.cell c.seat.inside.seat c.args.arc w (omega arith))

pub invariant_of-seat : goal.invariant_of-seat
invariant_of-seat g c =
    let i = c.seat.invariant in
    let w = subst (λ (o : Option ℕ). IsWorker g.B.BoardId.board c.seat.inside.cell o c.seat.inside.seat) c.in-None.is i in
    (asked_as g.B.BoardId.board 0 c.args.self.now.cells.shared.table_id.slots c.seat.inside.cell c.seat.inside.seat c.args.arc c.store.new.seat w (omega arith) c.store.ensures.0 c.store.ensures.2).0
