-- The claimed word may become the verdict's, since the holder's seat knows the claim.
use Rattle.std.proofs.Common.{Some, refl, sym, ap, ◌∙◌, ◌≡◌, ◌-◌, ◌<◌, subst, ℕ}
use Rattle.proposals.specs.Ledger.{HolderView, claimed_from}
use Rattle.proposals.proofs.Seated.{cell_in, holds_less, answer_as, answered_as}
use Rattle.proposals.proofs.board.Board.answer.Goals as goal

pub store-requires : goal.store-requires
store-requires g c =
    let i = c.holder.invariant.seat in
    let v = c.holder.view_is in
    let named = c.args.self.now.named in
    let inside : c.args.worker - 1 < c.args.self.now.cells.shared.table_id.words = cell_in _ _ _ _ c.args.worker named i.wide v c.requires.worker.0 c.requires.worker.1 in
    let low : c.args.worker - 1 < c.args.self.now.cells.shared.key = subst (λ (n : ℕ). c.args.worker - 1 < n) (sym c.args.self.now.counted) inside in
    let has = subst (λ (h : HolderView). claimed_from h.served (c.args.worker - 1) ≡ Some c.requires.claimed.0) (sym v) c.requires.claimed.1 in
    (i.table ∙ sym named, inside, answer_as g.B.BoardId.board _ c.args.self.now.cells.shared.table_id.slots (c.args.worker - 1) c.holder.inside.seat i c.requires.claimed.0 has c.args.verdict c.word_of.result low c.word_of.ensures)

pub invariant_of-holder : goal.invariant_of-holder
invariant_of-holder g c =
    let i = c.holder.invariant.seat in
    let v = c.holder.view_is in
    let has = subst (λ (h : HolderView). claimed_from h.served (c.args.worker - 1) ≡ Some c.requires.claimed.0) (sym v) c.requires.claimed.1 in
    let now = answered_as g.B.BoardId.board 0 c.args.self.now.cells.shared.table_id.slots (c.args.worker - 1) c.holder.inside.seat i c.requires.claimed.0 has c.args.verdict c.word_of.result c.store.new.seat c.word_of.ensures c.store.ensures.0 c.store.ensures.2 in
    let inside = cell_in _ g.B.BoardId.board _ _ c.args.worker refl i.wide v c.requires.worker.0 c.requires.worker.1 in
    holds_less g.B.BoardId.board c.holder.inside.claimed.items c.holder.inside.seat c.store.new.seat (c.args.worker - 1) _ c.holder.invariant now.0 refl inside (ap (λ q. q.served) now.1)

pub returns-clause-looks : goal.returns-clause-looks
returns-clause-looks g c =
    let i = c.holder.invariant.seat in
    let v = c.holder.view_is in
    let has = subst (λ (h : HolderView). claimed_from h.served (c.args.worker - 1) ≡ Some c.requires.claimed.0) (sym v) c.requires.claimed.1 in
    let now = (answered_as g.B.BoardId.board 0 c.args.self.now.cells.shared.table_id.slots (c.args.worker - 1) c.holder.inside.seat i c.requires.claimed.0 has c.args.verdict c.word_of.result c.store.new.seat c.word_of.ensures c.store.ensures.0 c.store.ensures.2).1 in
    ap (λ q. q.looks) now ∙ ap (λ (h : HolderView). h.looks) v
