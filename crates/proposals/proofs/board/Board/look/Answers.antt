-- The load adds the worker's cell to what the seat knows.
use Rattle.std.proofs.Common.{◌-◌, sym, ap, ◌∙◌}
use Rattle.proposals.specs.Ledger.{HolderView}
use Rattle.proposals.proofs.Seated.{cell_in, holds_same, look_as, looked_as}
use Rattle.proposals.proofs.board.Board.look.Goals as goal

pub load-requires : goal.load-requires
load-requires g c =
    let i = c.holder.invariant.seat in
    let named = c.args.self.now.named in
    (i.table ∙ sym named, cell_in _ _ _ _ c.args.worker named i.wide c.holder.view_is c.requires.0 c.requires.1, look_as g.B.BoardId.board c.args.self.now.cells.shared.key c.args.self.now.cells.shared.table_id.slots (c.args.worker - 1) c.holder.inside.seat i)

pub invariant_of-holder : goal.invariant_of-holder
invariant_of-holder g c =
    let look = looked_as g.B.BoardId.board 0 c.args.self.now.cells.shared.table_id.slots (c.args.worker - 1) c.holder.inside.seat c.holder.invariant.seat c.load.result c.load.new.seat c.load.ensures.0 c.load.ensures.2 in
    holds_same g.B.BoardId.board c.holder.inside.claimed.items c.holder.inside.seat c.load.new.seat c.holder.invariant look.0 (ap (λ q. q.served) look.1)

pub returns-clause-served : goal.returns-clause-served
returns-clause-served g c =
    let look = looked_as g.B.BoardId.board 0 c.args.self.now.cells.shared.table_id.slots (c.args.worker - 1) c.holder.inside.seat c.holder.invariant.seat c.load.result c.load.new.seat c.load.ensures.0 c.load.ensures.2 in
    ap (λ q. q.served) look.1 ∙ ap (λ (v : HolderView). v.served) c.holder.view_is
