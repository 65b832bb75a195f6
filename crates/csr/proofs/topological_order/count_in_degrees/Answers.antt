-- A block is counted no more often than there are arcs.
use Rattle.std.proofs.Common.{◌≡◌, ℕ, ◌+◌, ◌-◌, ◌<◌, get_or, set, length, arith, ap, refl, subst, sym, ◌∙◌}
use Rattle.std.proofs.lemmas.List.{length-set}
use Rattle.csr.specs.Count.{count}
use Rattle.csr.specs.Queue.{leads_to}
use Rattle.csr.proofs.Begun.{own_offsets}
use Rattle.csr.proofs.Count.{count-zero, count-le}
use Rattle.csr.proofs.Queue.{count_more}
use Rattle.csr.proofs.topological_order.count_in_degrees.Goals as goal

pub loop-u-init : goal.loop-u-init
loop-u-init c = record {
  some = omega arith;
  counts = λ v h. c.requires.zero v h ∙ sym (ap (λ k. count k (leads_to c.args.rows.now.pairs v)) c.offsets-offsets.ensures.rows.first ∙ count-zero (leads_to c.args.rows.now.pairs v));
}

pub target-block-requires-clause-inside : goal.target-block-requires-clause-inside
target-block-requires-clause-inside c =
    let arcs = c.args.rows.now.pairs in
    let offsets = c.offsets-offsets.result.now in
    let k = c.loop-k.k in
    let size = c.offsets-offsets.ensures.rows.count in
    let rows = own_offsets arcs offsets c.args.rows.now.blocks c.args.rows.now.blocks refl c.offsets-offsets.ensures.rows c.offsets-offsets.ensures.own in
    let next : c.loop-u.u - 1 + 1 ≡ c.loop-u.u = omega arith in
    let ends = ap (λ u. get_or offsets u 0) next in
    let rises = rows.rises (c.loop-u.u - 1) (omega arith) in
    let inside : k < length arcs = omega arith in
    inside

pub target-block-requires-clause-own : goal.target-block-requires-clause-own
target-block-requires-clause-own c =
    let arcs = c.args.rows.now.pairs in
    let offsets = c.offsets-offsets.result.now in
    let k = c.loop-k.k in
    let size = c.offsets-offsets.ensures.rows.count in
    let rows = own_offsets arcs offsets c.args.rows.now.blocks c.args.rows.now.blocks refl c.offsets-offsets.ensures.rows c.offsets-offsets.ensures.own in
    let next : c.loop-u.u - 1 + 1 ≡ c.loop-u.u = omega arith in
    let ends = ap (λ u. get_or offsets u 0) next in
    let rises = rows.rises (c.loop-u.u - 1) (omega arith) in
    let inside : k < length arcs = omega arith in
    rows.owns (c.loop-u.u - 1) k (omega arith) (omega arith) (omega arith)

pub bounds-left-block : goal.bounds-left-block
bounds-left-block c =
    let arcs = c.args.rows.now.pairs in
    let offsets = c.offsets-offsets.result.now in
    let k = c.loop-k.k in
    let size = c.offsets-offsets.ensures.rows.count in
    let rows = own_offsets arcs offsets c.args.rows.now.blocks c.args.rows.now.blocks refl c.offsets-offsets.ensures.rows c.offsets-offsets.ensures.own in
    let next : c.loop-u.u - 1 + 1 ≡ c.loop-u.u = omega arith in
    let ends = ap (λ u. get_or offsets u 0) next in
    let rises = rows.rises (c.loop-u.u - 1) (omega arith) in
    let inside : k < length arcs = omega arith in
    let range = c.requires.range k inside in
    let second = c.target-block.ensures in
    omega arith

pub bounds-left-block-in-loop-k : goal.bounds-left-block-in-loop-k
bounds-left-block-in-loop-k c =
    let arcs = c.args.rows.now.pairs in
    let offsets = c.offsets-offsets.result.now in
    let k = c.loop-k.k in
    let size = c.offsets-offsets.ensures.rows.count in
    let rows = own_offsets arcs offsets c.args.rows.now.blocks c.args.rows.now.blocks refl c.offsets-offsets.ensures.rows c.offsets-offsets.ensures.own in
    let next : c.loop-u.u - 1 + 1 ≡ c.loop-u.u = omega arith in
    let ends = ap (λ u. get_or offsets u 0) next in
    let rises = rows.rises (c.loop-u.u - 1) (omega arith) in
    let inside : k < length arcs = omega arith in
    let range = c.requires.range k inside in
    let second = c.target-block.ensures in
    omega arith

pub overflow_add-left : goal.overflow_add-left
overflow_add-left c =
    let arcs = c.args.rows.now.pairs in
    let offsets = c.offsets-offsets.result.now in
    let k = c.loop-k.k in
    let size = c.offsets-offsets.ensures.rows.count in
    let rows = own_offsets arcs offsets c.args.rows.now.blocks c.args.rows.now.blocks refl c.offsets-offsets.ensures.rows c.offsets-offsets.ensures.own in
    let next : c.loop-u.u - 1 + 1 ≡ c.loop-u.u = omega arith in
    let ends = ap (λ u. get_or offsets u 0) next in
    let rises = rows.rises (c.loop-u.u - 1) (omega arith) in
    let inside : k < length arcs = omega arith in
    let range = c.requires.range k inside in
    let second = c.target-block.ensures in
    let e = c.loop-k.invariant c.target-block.result (omega arith) in
    omega (arith, count-le k (leads_to arcs c.target-block.result), c.requires.few)

pub loop-k-preserved : goal.loop-k-preserved
loop-k-preserved c v h =
    let arcs = c.args.rows.now.pairs in
    let offsets = c.offsets-offsets.result.now in
    let k = c.loop-k.k in
    let size = c.offsets-offsets.ensures.rows.count in
    let rows = own_offsets arcs offsets c.args.rows.now.blocks c.args.rows.now.blocks refl c.offsets-offsets.ensures.rows c.offsets-offsets.ensures.own in
    let next : c.loop-u.u - 1 + 1 ≡ c.loop-u.u = omega arith in
    let ends = ap (λ u. get_or offsets u 0) next in
    let rises = rows.rises (c.loop-u.u - 1) (omega arith) in
    let inside : k < length arcs = omega arith in
    let range = c.requires.range k inside in
    let second = c.target-block.ensures in
    let left = c.loop-k.left in
    let w : ℕ = c.target-block.result in
    subst (λ y. get_or (set left y (get_or left y 0 + 1)) v 0 ≡ count (k + 1) (leads_to arcs v)) (sym second)
    (count_more arcs left k (omega arith) c.loop-k.invariant v (omega (arith, length-set left w (get_or left w 0 + 1))))

pub returns : goal.returns
returns c v h =
    let size = c.offsets-offsets.ensures.rows.count in
    let e : c.loop-u.u - 1 ≡ c.args.rows.now.blocks = omega arith in
    c.loop-u.invariant.counts v (omega arith) ∙ ap (λ k. count k (leads_to c.args.rows.now.pairs v)) (ap (λ u. get_or c.offsets-offsets.result.now u 0) e ∙ c.offsets-offsets.ensures.rows.last)
