-- Each split deals the next worker its seat.
use Rattle.std.proofs.Common.{[], arith, sym, ap, ◌<◌, subst, ℕ, replicate}
use Rattle.proposals.specs.Ledger.{holder_ledger, nothing_served}
use Rattle.proposals.proofs.Dealing.{may_deal}
use Rattle.proposals.proofs.board.Board.new.Goals as goal

pub split_seat-theirs-requires : goal.split_seat-theirs-requires
split_seat-theirs-requires g c =
    let i = c.loop-cell.invariant in
    let less : c.loop-cell.cell < c.unnamed.inside.cells.shared.key = subst (λ (n : ℕ). c.loop-cell.cell < n) (sym c.unnamed.inside.keyed) c.loop-cell-test.true in
    (i.table, omega (arith, c.unnamed.inside.wide, c.loop-cell-test.true), may_deal c.unnamed.inside.cells.shared.key c.loop-cell.seat.id c.loop-cell.seat.me.0 (holder_ledger c.loop-cell.cell (replicate c.unnamed.inside.workers nothing_served) []) (ap (λ m. m.0.holder) i.me) less)
