-- The ask that the look found is decided and answered, or given back.
use Rattle.std.proofs.Common.{◌≤◌, ◌-◌, [], ◌∷◌, ◌++◌, arith, ap, ◌∙◌, subst, length}
use Rattle.proposals.specs.Ledger.{HolderView}
use Rattle.tree_lock.specs.HolderState.{HolderState, DecidesFor, holder_state, with_look}
use Rattle.tree_lock.proofs.Serving.{after_answer, decided, looked, seats_answered, seats_returned}
use Rattle.tree_lock.proofs.holder.Holder.serve_one.Goals as goal

pub invariant_of-self-in-Ok : goal.invariant_of-self-in-Ok
invariant_of-self-in-Ok g c =
    let i = c.self.invariant in
    let seat = c.self.inside.seat.served in
    let w = c.args.worker in
    let high : w ≤ length seat = omega (arith, i.0.wide, c.requires.1) in
    let seats = seats_answered seat c.claim_ask.new.holder.served c.answer.new.holder.served w c.in-Some.arc c.in-Ok.verdict c.requires.0 high c.in-Some.ensures.claimed.2 c.answer.ensures.answered in
    let now = after_answer g.S.ListId.mine c.self.inside.published_journal c.decide.new.self g.S.LockId.workers g.S.BoardId.arcs seat c.answer.new.holder.served w c.in-Some.arc c.in-Ok.verdict i.0 c.requires.0 high c.in-Some.ensures.claimed.0 c.in-Ok.ensures.decided seats in
    (now.0, now.1 ∙ i.1)

pub returns-in-Ok-clause-served : goal.returns-in-Ok-clause-served
returns-in-Ok-clause-served g c =
    let mine = g.S.ListId.mine in
    let seat = c.self.inside.seat in
    let w = c.args.worker in
    let high : w ≤ length seat.served = omega (arith, c.self.invariant.0.wide, c.requires.1) in
    let after_look : HolderView = record { served = seat.served; looks = seat.looks ++ (w - 1) ∷ [] } in
    let seats = seats_answered seat.served c.claim_ask.new.holder.served c.answer.new.holder.served w c.in-Some.arc c.in-Ok.verdict c.requires.0 high c.in-Some.ensures.claimed.2 c.answer.ensures.answered in (
      c.in-Some.arc,
      c.in-Ok.verdict,
      subst (λ (h : HolderState). DecidesFor w c.in-Some.arc (with_look h (w - 1)) (holder_state mine c.decide.new.self c.answer.new.holder) c.in-Ok.verdict) c.self.view_is
          (decided mine c.self.inside.published_journal c.decide.new.self after_look c.answer.new.holder w c.in-Some.arc c.in-Ok.verdict c.in-Ok.ensures.decided seats (c.answer.ensures.looks ∙ c.in-Some.ensures.looked)),
    )

pub returns-in-Err-clause-refused : goal.returns-in-Err-clause-refused
returns-in-Err-clause-refused g c =
    let mine = g.S.ListId.mine in
    let seat = c.self.inside.seat in
    let w = c.args.worker in
    let high : w ≤ length seat.served = omega (arith, c.self.invariant.0.wide, c.requires.1) in
    let seats = seats_returned seat.served c.claim_ask.new.holder.served c.unclaim.new.holder.served w c.in-Some.arc c.requires.0 high c.in-Some.ensures.claimed.1 c.in-Some.ensures.claimed.2 c.unclaim.ensures.unclaimed in (
      c.in-Err.ensures.refused.0,
      looked mine c.self.inside.published_journal c.decide.new.self seat c.unclaim.new.holder (w - 1) c.in-Err.ensures.refused.1 seats (c.unclaim.ensures.looks ∙ c.in-Some.ensures.looked)
          ∙ ap (λ (h : HolderState). with_look h (w - 1)) c.self.view_is,
    )
