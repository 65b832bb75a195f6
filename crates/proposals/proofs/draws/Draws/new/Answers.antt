-- Each split takes one seat off those that the first seat stands for.
use Rattle.std.proofs.Common.{arith, ap, ◌<◌}
use Rattle.proposals.proofs.Drawing.{may_cut}
use Rattle.proposals.proofs.draws.Draws.new.Goals as goal

pub split_seat-theirs-requires : goal.split_seat-theirs-requires
split_seat-theirs-requires g c =
    let i = c.loop-done.invariant in
    let left : 0 < c.loop-done.seat.me.0.seats = let e = ap (λ m. m.0.seats) i.me in omega (arith, e, c.loop-done-test.true) in
    (i.table, omega (arith, c.unnamed.inside.wide), may_cut c.unnamed.inside.counter.shared.key c.loop-done.seat.id c.loop-done.seat.me.0 left (ap (λ m. m.0.drawn) i.me))
