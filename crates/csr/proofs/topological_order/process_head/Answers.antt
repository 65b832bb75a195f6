-- An arc that is not handled yet leaves something of its block, and so the queue has room for it.
use Rattle.std.proofs.Common.{◌≡◌, ℕ, ◌+◌, ◌-◌, ◌<◌, get_or, set, length, arith, ap, subst, sym, ◌∙◌, refl}
use Rattle.std.proofs.lemmas.List.{get_or-set_other, length-set}
use Rattle.pit_model.specs.Graph.{second_of}
use Rattle.csr.proofs.Begun.{own_offsets}
use Rattle.csr.proofs.Offsets.{AreOffsets}
use Rattle.csr.proofs.Queue.{IsProcessing, processing_none, processing_all, some, fits, processing_still, processing_free}
use Rattle.csr.proofs.topological_order.process_head.Goals as goal
use Rattle.csr.proofs.topological_order.process_head.Goals.{then-left-user-eq0, else-left-user-eq0}

pub loop-k-init : goal.loop-k-init
loop-k-init c =
    let block : ℕ = get_or c.args.order.now c.args.head 0 in
    let below = (c.requires.settled.counted.queue.free c.args.head c.requires.head).0 in
    record {
      state = processing_none c.args.rows.now.pairs c.offsets-offsets.result.now c.args.left.now c.args.order.now c.args.tail c.args.head (get_or c.offsets-offsets.result.now block 0) (get_or c.offsets-offsets.result.now (block + 1) 0)
          (own_offsets c.args.rows.now.pairs c.offsets-offsets.result.now c.args.rows.now.blocks (length c.args.left.now) c.requires.blocks c.offsets-offsets.ensures.rows c.offsets-offsets.ensures.own) below refl refl c.requires.head c.requires.settled;
      grows = omega arith;
      block = refl;
    }

pub overflow_sub-left : goal.overflow_sub-left
overflow_sub-left c =
    let arcs = c.args.rows.now.pairs in
    let k = c.loop-k.k in
    let block : ℕ = get_or c.args.order.now c.args.head 0 in
    let below = (c.requires.settled.counted.queue.free c.args.head c.requires.head).0 in
    let rises = (own_offsets c.args.rows.now.pairs c.offsets-offsets.result.now c.args.rows.now.blocks (length c.args.left.now) c.requires.blocks c.offsets-offsets.ensures.rows c.offsets-offsets.ensures.own).rises block below in
    let inside : k < length arcs = omega arith in
    let range = c.requires.range k inside in
    let second = sym c.target-user.ensures in
    let owner = (own_offsets c.args.rows.now.pairs c.offsets-offsets.result.now c.args.rows.now.blocks (length c.args.left.now) c.requires.blocks c.offsets-offsets.ensures.rows c.offsets-offsets.ensures.own).owns block k below (omega arith) c.loop-k-test.true in
    let s = some arcs c.loop-k.left c.loop-k.order c.loop-k.last c.args.head (get_or c.offsets-offsets.result.now block 0) k (get_or c.offsets-offsets.result.now (block + 1) 0)
    (omega arith) (omega arith) c.loop-k-test.true inside (omega arith) (omega arith) (owner ∙ sym c.loop-k.invariant.block) c.loop-k.invariant.state in
    let here = ap (λ v. get_or c.loop-k.left v 0) second in
    omega arith

pub bounds-order-last : goal.bounds-order-last
bounds-order-last c =
    let arcs = c.args.rows.now.pairs in
    let k = c.loop-k.k in
    let block : ℕ = get_or c.args.order.now c.args.head 0 in
    let below = (c.requires.settled.counted.queue.free c.args.head c.requires.head).0 in
    let rises = (own_offsets c.args.rows.now.pairs c.offsets-offsets.result.now c.args.rows.now.blocks (length c.args.left.now) c.requires.blocks c.offsets-offsets.ensures.rows c.offsets-offsets.ensures.own).rises block below in
    let inside : k < length arcs = omega arith in
    let range = c.requires.range k inside in
    let second = sym c.target-user.ensures in
    let owner = (own_offsets c.args.rows.now.pairs c.offsets-offsets.result.now c.args.rows.now.blocks (length c.args.left.now) c.requires.blocks c.offsets-offsets.ensures.rows c.offsets-offsets.ensures.own).owns block k below (omega arith) c.loop-k-test.true in
    fits arcs c.loop-k.left c.loop-k.order c.loop-k.last c.args.head (get_or c.offsets-offsets.result.now block 0) k (get_or c.offsets-offsets.result.now (block + 1) 0)
    (omega arith) (omega arith) c.loop-k-test.true inside (omega arith) (omega arith) (owner ∙ sym c.loop-k.invariant.block) c.loop-k.invariant.state

pub loop-k-preserved : goal.loop-k-preserved
loop-k-preserved c =
    let arcs = c.args.rows.now.pairs in
    let k = c.loop-k.k in
    let block : ℕ = get_or c.args.order.now c.args.head 0 in
    let below = (c.requires.settled.counted.queue.free c.args.head c.requires.head).0 in
    let rises = (own_offsets c.args.rows.now.pairs c.offsets-offsets.result.now c.args.rows.now.blocks (length c.args.left.now) c.requires.blocks c.offsets-offsets.ensures.rows c.offsets-offsets.ensures.own).rises block below in
    let inside : k < length arcs = omega arith in
    let range = c.requires.range k inside in
    let second = sym c.target-user.ensures in
    let owner = (own_offsets c.args.rows.now.pairs c.offsets-offsets.result.now c.args.rows.now.blocks (length c.args.left.now) c.requires.blocks c.offsets-offsets.ensures.rows c.offsets-offsets.ensures.own).owns block k below (omega arith) c.loop-k-test.true in
    let here : second_of arcs k < length c.loop-k.left = omega arith in
    let user : ℕ = c.target-user.result in
    let begin : ℕ = get_or c.offsets-offsets.result.now block 0 in
    let end : ℕ = get_or c.offsets-offsets.result.now (block + 1) 0 in
    let left = c.loop-k.left in
    let same : length c.loop-k.order ≡ length c.loop-k.left = omega arith in
    let ahead : c.args.head < c.loop-k.last = omega (arith, c.loop-k.invariant.grows) in
    elim c.if-left-user-eq0.branch [
      | then-left-user-eq0 w ↦
          let none = subst (λ v. get_or (set left v (get_or left v 0 - 1)) v 0 ≡ 0) (sym second) w.if-left-user-eq0.true in
          record {
            state = rw (w.order-is, w.last-is)
                (subst (λ v. IsProcessing arcs (set left v (get_or left v 0 - 1)) (set c.loop-k.order c.loop-k.last v) (c.loop-k.last + 1) c.args.head begin (k + 1) end) second
                (processing_free arcs left c.loop-k.order c.loop-k.last c.args.head begin k end
                ahead (omega arith) c.loop-k-test.true inside here same (owner ∙ sym c.loop-k.invariant.block) c.loop-k.invariant.state none));
            grows = omega (arith, w.last-is, c.loop-k.invariant.grows);
            block = ap (λ o. get_or o c.args.head 0) w.order-is ∙ get_or-set_other c.loop-k.order c.loop-k.last c.args.head user 0 (λ e. omega arith) ∙ c.loop-k.invariant.block;
          }
      | else-left-user-eq0 w ↦
          let more = subst (λ v. get_or (set left v (get_or left v 0 - 1)) v 0 ≡ 0 → ⊥) (sym second) w.if-left-user-eq0.false in
          record {
            state = rw (w.order-is, w.last-is)
                (subst (λ v. IsProcessing arcs (set left v (get_or left v 0 - 1)) c.loop-k.order c.loop-k.last c.args.head begin (k + 1) end) second
                (processing_still arcs left c.loop-k.order c.loop-k.last c.args.head begin k end
                ahead (omega arith) c.loop-k-test.true inside here same (owner ∙ sym c.loop-k.invariant.block) c.loop-k.invariant.state more));
            grows = omega (arith, w.last-is, c.loop-k.invariant.grows);
            block = ap (λ o. get_or o c.args.head 0) w.order-is ∙ c.loop-k.invariant.block;
          }
    ]

pub returns-clause-settled : goal.returns-clause-settled
returns-clause-settled c =
    let block : ℕ = get_or c.loop-k.order c.args.head 0 in
    let below = (c.requires.settled.counted.queue.free c.args.head c.requires.head).0 in
    let is = c.loop-k.invariant.block in
    let n : length c.args.left.now ≡ length c.loop-k.left = omega arith in
    let csr : AreOffsets c.args.rows.now.pairs c.offsets-offsets.result.now (length c.loop-k.left) = rw (← n) (own_offsets c.args.rows.now.pairs c.offsets-offsets.result.now c.args.rows.now.blocks (length c.args.left.now) c.requires.blocks c.offsets-offsets.ensures.rows c.offsets-offsets.ensures.own) in
    processing_all c.args.rows.now.pairs c.offsets-offsets.result.now c.loop-k.left c.loop-k.order c.loop-k.last c.args.head (get_or c.offsets-offsets.result.now (get_or c.args.order.now c.args.head 0) 0) (get_or c.offsets-offsets.result.now (get_or c.args.order.now c.args.head 0 + 1) 0)
    csr (omega arith) (ap (λ b. get_or c.offsets-offsets.result.now b 0) (sym is)) (ap (λ b. get_or c.offsets-offsets.result.now (b + 1) 0) (sym is)) c.loop-k.k (omega arith) c.loop-k.invariant.state

pub target-user-requires-clause-inside : goal.target-user-requires-clause-inside
target-user-requires-clause-inside c =
    let below = (c.requires.settled.counted.queue.free c.args.head c.requires.head).0 in
    let rises = (own_offsets c.args.rows.now.pairs c.offsets-offsets.result.now c.args.rows.now.blocks (length c.args.left.now) c.requires.blocks c.offsets-offsets.ensures.rows c.offsets-offsets.ensures.own).rises (get_or c.args.order.now c.args.head 0) below in
    omega arith

pub target-user-requires-clause-own : goal.target-user-requires-clause-own
target-user-requires-clause-own c =
    let below = (c.requires.settled.counted.queue.free c.args.head c.requires.head).0 in
    (own_offsets c.args.rows.now.pairs c.offsets-offsets.result.now c.args.rows.now.blocks (length c.args.left.now) c.requires.blocks c.offsets-offsets.ensures.rows c.offsets-offsets.ensures.own).owns (get_or c.args.order.now c.args.head 0) c.loop-k.k below (omega arith) c.loop-k-test.true

pub bounds-left-user : goal.bounds-left-user
bounds-left-user c =
    let below = (c.requires.settled.counted.queue.free c.args.head c.requires.head).0 in
    let rises = (own_offsets c.args.rows.now.pairs c.offsets-offsets.result.now c.args.rows.now.blocks (length c.args.left.now) c.requires.blocks c.offsets-offsets.ensures.rows c.offsets-offsets.ensures.own).rises (get_or c.args.order.now c.args.head 0) below in
    let range = c.requires.range c.loop-k.k (omega arith) in
    let second = sym c.target-user.ensures in
    omega arith

pub bounds-left-user-in-loop-k : goal.bounds-left-user-in-loop-k
bounds-left-user-in-loop-k c =
    let below = (c.requires.settled.counted.queue.free c.args.head c.requires.head).0 in
    let rises = (own_offsets c.args.rows.now.pairs c.offsets-offsets.result.now c.args.rows.now.blocks (length c.args.left.now) c.requires.blocks c.offsets-offsets.ensures.rows c.offsets-offsets.ensures.own).rises (get_or c.args.order.now c.args.head 0) below in
    let range = c.requires.range c.loop-k.k (omega arith) in
    let second = sym c.target-user.ensures in
    omega arith

pub bounds-left-user-in-loop-k-2 : goal.bounds-left-user-in-loop-k-2
bounds-left-user-in-loop-k-2 c =
    let below = (c.requires.settled.counted.queue.free c.args.head c.requires.head).0 in
    let rises = (own_offsets c.args.rows.now.pairs c.offsets-offsets.result.now c.args.rows.now.blocks (length c.args.left.now) c.requires.blocks c.offsets-offsets.ensures.rows c.offsets-offsets.ensures.own).rises (get_or c.args.order.now c.args.head 0) below in
    let range = c.requires.range c.loop-k.k (omega arith) in
    let second = sym c.target-user.ensures in
    let user : ℕ = c.target-user.result in
    omega (arith, length-set c.loop-k.left user (get_or c.loop-k.left user 0 - 1))
