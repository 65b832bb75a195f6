-- The word is exchanged only where the ask still stands; else the seat is as after the look.
use Rattle.std.proofs.Common.{None, length, arith, refl, sym, ap, ◌∙◌, ◌≡◌, ◌-◌, ◌<◌, ◌≤◌, subst, ℕ}
use Rattle.proposals.specs.Ledger.{HolderView, claimed_from, claiming}
use Rattle.proposals.proofs.Seated.{cell_in, holds_same, holds_more, claim_as, claimed_as, not_claimed_as}
use Rattle.proposals.proofs.board.Board.claim_ask.Goals as goal

pub compare_exchange-found-requires : goal.compare_exchange-found-requires
compare_exchange-found-requires g c =
    let i = c.holder.invariant.seat in
    let named = c.args.self.now.named in
    let high : c.args.worker ≤ length c.look-word.new.holder.served = omega (arith, ap length c.look-word.ensures.served, c.requires.1) in
    let inside : c.args.worker - 1 < c.args.self.now.cells.shared.table_id.words = cell_in _ _ _ _ c.args.worker named i.wide c.holder.view_is c.requires.0 high in
    let low : c.args.worker - 1 < c.args.self.now.cells.shared.key = subst (λ (n : ℕ). c.args.worker - 1 < n) (sym c.args.self.now.counted) inside in
    (i.table ∙ sym named, inside, claim_as g.B.BoardId.board _ c.args.self.now.cells.shared.table_id.slots (c.args.worker - 1) c.holder.inside.seat i c.look-word.result low c.if-word-lt-ASKED.false (omega (arith, c.if-word-from.false, c.from.ensures)))

pub invariant_of-holder : goal.invariant_of-holder
invariant_of-holder g c =
    let same = not_claimed_as g.B.BoardId.board 0 c.args.self.now.cells.shared.table_id.slots (c.args.worker - 1) c.holder.inside.seat c.holder.invariant.seat c.look-word.result _ c.compare_exchange-found.new.seat c.if-word-lt-ASKED.false c.compare_exchange-found.ensures.0 c.compare_exchange-found.ensures.2 c.if-found-word.true in
    holds_same g.B.BoardId.board c.holder.inside.claimed.items c.holder.inside.seat c.compare_exchange-found.new.seat c.holder.invariant same.0 (ap (λ q. q.served) same.1)

pub returns-then-found-word-clause-looked : goal.returns-then-found-word-clause-looked
returns-then-found-word-clause-looked g c =
    let same = (not_claimed_as g.B.BoardId.board 0 c.args.self.now.cells.shared.table_id.slots (c.args.worker - 1) c.holder.inside.seat c.holder.invariant.seat c.look-word.result _ c.compare_exchange-found.new.seat c.if-word-lt-ASKED.false c.compare_exchange-found.ensures.0 c.compare_exchange-found.ensures.2 c.if-found-word.true).1 in
    ap (λ q. q.looks) same ∙ (ap (λ (v : HolderView). v.looks) c.holder.view_is ∙ c.look-word.ensures.looked)

pub returns-then-found-word-clause-claimed : goal.returns-then-found-word-clause-claimed
returns-then-found-word-clause-claimed g c =
    let same = (not_claimed_as g.B.BoardId.board 0 c.args.self.now.cells.shared.table_id.slots (c.args.worker - 1) c.holder.inside.seat c.holder.invariant.seat c.look-word.result _ c.compare_exchange-found.new.seat c.if-word-lt-ASKED.false c.compare_exchange-found.ensures.0 c.compare_exchange-found.ensures.2 c.if-found-word.true).1 in
    ap (λ q. q.served) same ∙ (ap (λ (v : HolderView). v.served) c.holder.view_is ∙ c.look-word.ensures.served)

pub invariant_of-holder-2 : goal.invariant_of-holder-2
invariant_of-holder-2 g c =
    let got = claimed_as g.B.BoardId.board 0 c.args.self.now.cells.shared.table_id.slots (c.args.worker - 1) c.holder.inside.seat c.holder.invariant.seat c.look-word.result _ c.compare_exchange-found.new.seat c.if-word-lt-ASKED.false c.compare_exchange-found.ensures.0 c.compare_exchange-found.ensures.2 c.if-found-word.false in
    let high : c.args.worker ≤ length c.look-word.new.holder.served = omega (arith, ap length c.look-word.ensures.served, c.requires.1) in
    let inside = cell_in _ g.B.BoardId.board _ _ c.args.worker refl c.holder.invariant.seat.wide c.holder.view_is c.requires.0 high in
    holds_more g.B.BoardId.board c.holder.inside.claimed.items c.holder.inside.seat c.compare_exchange-found.new.seat (c.args.worker - 1) (c.look-word.result - 4294967296) c.holder.invariant got.0 inside (ap (λ q. q.served) got.1)

pub returns-clause-looked : goal.returns-clause-looked
returns-clause-looked g c =
    let got = claimed_as g.B.BoardId.board 0 c.args.self.now.cells.shared.table_id.slots (c.args.worker - 1) c.holder.inside.seat c.holder.invariant.seat c.look-word.result _ c.compare_exchange-found.new.seat c.if-word-lt-ASKED.false c.compare_exchange-found.ensures.0 c.compare_exchange-found.ensures.2 c.if-found-word.false in
    ap (λ q. q.looks) got.1 ∙ (ap (λ (v : HolderView). v.looks) c.holder.view_is ∙ c.look-word.ensures.looked)

pub returns-clause-claimed : goal.returns-clause-claimed
returns-clause-claimed g c =
    let got = claimed_as g.B.BoardId.board 0 c.args.self.now.cells.shared.table_id.slots (c.args.worker - 1) c.holder.inside.seat c.holder.invariant.seat c.look-word.result _ c.compare_exchange-found.new.seat c.if-word-lt-ASKED.false c.compare_exchange-found.ensures.0 c.compare_exchange-found.ensures.2 c.if-found-word.false in
    let was = ap (λ (v : HolderView). v.served) c.holder.view_is ∙ c.look-word.ensures.served in
    let low : c.look-word.result - 4294967296 < g.B.BoardId.arcs = omega (arith, c.if-word-lt-ASKED.false, c.if-word-from.false, c.from.ensures, c.args.self.now.known) in
    (low, subst (λ xs. claimed_from xs (c.args.worker - 1) ≡ None) was got.2, ap (λ q. q.served) got.1 ∙ ap (λ xs. claiming xs (c.args.worker - 1) (c.look-word.result - 4294967296)) was)
