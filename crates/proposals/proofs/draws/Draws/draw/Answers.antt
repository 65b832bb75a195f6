-- A seat that is not done may draw, and is done where its number is not below the chunks.
use Rattle.std.proofs.Common.{arith, Bool, true, sym, ap, subst, ◌∙◌}
use Rattle.proposals.specs.DrawSeats.{IsDrawer}
use Rattle.proposals.specs.Drawn.{one_if}
use Rattle.proposals.proofs.Drawing.{may_draw, drawer_after, below, not_below}
use Rattle.proposals.proofs.draws.Draws.draw.Goals as goal

pub fetch_add-found-requires : goal.fetch_add-found-requires
fetch_add-found-requires g c =
    let i = c.seat.invariant in
    let w = c.self.inside.wide in
    (i.table ∙ sym c.self.inside.named, omega (arith, w), may_draw c.self.inside.counter.shared.key c.self.inside.counter.shared.table_id.slots c.seat.inside.seat.id c.seat.inside.seat.me i.one (i.ended_is ∙ ap one_if c.if-seat.false))

pub invariant_of-seat : goal.invariant_of-seat
invariant_of-seat g c =
    let i = subst (λ (b : Bool). IsDrawer g.L.CounterId.draws c.seat.inside.chunks b c.seat.inside.seat) c.if-seat.false c.seat.invariant in
    let e = c.fetch_add-found.ensures in
    drawer_after g.L.CounterId.draws c.seat.inside.chunks c.fetch_add-found.result c.seat.inside.ended c.seat.inside.seat c.fetch_add-found.new.seat i e.0 e.2.1 (below c.fetch_add-found.result c.seat.inside.chunks (omega (arith, c.if-found-from.true, c.from.ensures)) ∙ ap one_if (sym c.if-seat.false))

pub invariant_of-seat-2 : goal.invariant_of-seat-2
invariant_of-seat-2 g c =
    let i = subst (λ (b : Bool). IsDrawer g.L.CounterId.draws c.seat.inside.chunks b c.seat.inside.seat) c.if-seat.false c.seat.invariant in
    let e = c.fetch_add-found.ensures in
    drawer_after g.L.CounterId.draws c.seat.inside.chunks c.fetch_add-found.result true c.seat.inside.seat c.fetch_add-found.new.seat i e.0 e.2.1 (not_below c.fetch_add-found.result c.seat.inside.chunks (omega (arith, c.if-found-from.false, c.from.ensures)))
