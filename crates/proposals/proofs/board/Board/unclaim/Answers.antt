-- The arc that the seat keeps is the claimed one, so the store gives back the very ask.
use Rattle.std.proofs.Common.{arith, Some, refl, sym, ap, ◌∙◌, ◌≡◌, ◌-◌, ◌<◌, subst, ℕ}
use Rattle.std.proofs.lemmas.Grind.{get_or_default_zero}
use Rattle.proposals.specs.Ledger.{HolderView, claimed_from}
use Rattle.proposals.proofs.Seated.{cell_in, unclaim_as}
use Rattle.proposals.proofs.board.Board.unclaim.Goals as goal

pub index-arc-requires : goal.index-arc-requires
index-arc-requires g c =
    let i = c.holder.invariant in
    let inside = cell_in _ g.B.BoardId.board _ _ c.args.worker refl i.seat.wide c.holder.view_is c.requires.worker.0 c.requires.worker.1 in
    omega (arith, inside, i.each_worker)

pub store-requires : goal.store-requires
store-requires g c =
    let i = c.holder.invariant in
    let v = c.holder.view_is in
    let named = c.args.self.now.named in
    let inside : c.args.worker - 1 < c.args.self.now.cells.shared.table_id.words = cell_in _ _ _ _ c.args.worker named i.seat.wide v c.requires.worker.0 c.requires.worker.1 in
    let low : c.args.worker - 1 < c.args.self.now.cells.shared.key = subst (λ (n : ℕ). c.args.worker - 1 < n) (sym c.args.self.now.counted) inside in
    let has = subst (λ (h : HolderView). claimed_from h.served (c.args.worker - 1) ≡ Some c.requires.claimed.0) (sym v) c.requires.claimed.1 in
    let kept = get_or_default_zero c.holder.inside.claimed.items (c.args.worker - 1) c.index-arc.result.now (omega (arith, inside, i.each_worker, ap (λ t. t.words) named)) ∙ i.kept (c.args.worker - 1) c.requires.claimed.0 has in
    (i.seat.table ∙ sym named, inside, unclaim_as g.B.BoardId.board _ c.args.self.now.cells.shared.table_id.slots (c.args.worker - 1) c.holder.inside.seat i.seat c.requires.claimed.0 has _ low (omega (arith, kept, c.from.ensures)))
