-- The two seats are one for a load, which sees both sides of the worker's ledger, and are parted again.
use Rattle.std.proofs.Common.{arith, sym, ap, ◌∙◌, subst}
use Rattle.proposals.specs.Seats.{IsHolder}
use Rattle.proposals.proofs.Dealing.{may_sit, may_meet, may_part}
use Rattle.proposals.proofs.Seated.{agree_as}
use Rattle.proposals.proofs.board.Board.settle.Goals as goal

pub load_new_seat-idle-requires : goal.load_new_seat-idle-requires
load_new_seat-idle-requires g c =
    let i = c.worker.invariant in
    let e = ap (λ t. t.words) c.args.self.now.named in
    (omega (arith, e, i.inside), may_sit c.args.self.now.cells.shared.key c.args.self.now.cells.shared.table_id.slots 0)

pub join_seat-requires : goal.join_seat-requires
join_seat-requires g c =
    let i = c.worker.invariant in
    let h = c.holder.invariant.seat in
    let same = c.replace-theirs.ensures.value in
    let e = ap (λ t. t.words) c.args.self.now.named in
    (i.table ∙ sym c.args.self.now.named, ap (λ s. s.table_id) same ∙ (h.table ∙ sym c.args.self.now.named), ap (λ s. s.me.1) same ∙ h.empty, omega (arith, e, i.inside), may_meet c.args.self.now.cells.shared.key _ _ _ _)

pub load-requires : goal.load-requires
load-requires g c =
    let i = c.worker.invariant in
    let h = c.holder.invariant.seat in
    let same = c.replace-theirs.ensures.value in
    let t = subst (λ s. IsHolder g.B.BoardId.board s) (sym same) h in
    let e = ap (λ t. t.words) c.args.self.now.named in
    (c.join_seat.ensures.0 ∙ (i.table ∙ sym c.args.self.now.named), omega (arith, e, i.inside), agree_as g.B.BoardId.board c.args.self.now.cells.shared.key c.args.self.now.cells.shared.table_id.slots c.worker.inside.cell c.worker.inside.ask c.worker.inside.seat c.replace-theirs.result c.join_seat.new.seat i t c.join_seat.ensures.2)

pub split_seat-requires : goal.split_seat-requires
split_seat-requires g c =
    let i = c.worker.invariant in
    let e = ap (λ t. t.words) c.args.self.now.named in
    (c.load.ensures.0 ∙ (c.join_seat.ensures.0 ∙ (i.table ∙ sym c.args.self.now.named)), omega (arith, e, i.inside), may_part c.args.self.now.cells.shared.key _ _)
