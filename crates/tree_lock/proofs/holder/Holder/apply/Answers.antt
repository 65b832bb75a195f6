use Rattle.std.proofs.Common.{subst, sym, ◌<◌, ◌∙◌, IfOk}
use Rattle.pit_model.specs.Mine.{arcs}
use Rattle.tree_lock.specs.HolderState.{HolderState, Decides, holder_state}
use Rattle.tree_lock.proofs.Serving.{after_apply, applied}
use Rattle.tree_lock.proofs.holder.Holder.apply.Goals as goal

pub invariant_of-self : goal.invariant_of-self
invariant_of-self g c =
    let i = c.self.invariant in
    let did = c.decide.ensures in
    let now = after_apply g.S.ListId.mine c.self.inside.published_journal c.decide.new.self g.S.LockId.workers g.S.BoardId.arcs c.self.inside.seat.served c.args.arc c.decide.result did.decided did.refused i.0 (subst (λ (h : HolderState). c.args.arc < arcs h.mine) (sym c.self.view_is) c.requires) in
    (now.0, now.1 ∙ i.1)

pub returns-clause-decided : goal.returns-clause-decided
returns-clause-decided g c =
    let mine = g.S.ListId.mine in
    let fields = c.self.inside in
    subst (λ (h : HolderState). IfOk c.decide.result (Decides c.args.arc h (holder_state mine c.decide.new.self fields.seat))) c.self.view_is
    (applied mine fields.published_journal c.decide.new.self fields.seat c.args.arc c.decide.result c.decide.ensures.decided)
