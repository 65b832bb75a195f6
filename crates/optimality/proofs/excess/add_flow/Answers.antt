-- Each sum stays small by the values' limits and the amounts', and at the end all arcs are counted.
use Rattle.std.proofs.Common.{◌≡◌, ℕ, ◌<◌, arith, get_or, length, ap, sym, ◌∙◌, eqb}
use Rattle.std.specs.Prelude.{pos, ◌+ℤ◌, ◌-ℤ◌}
use Rattle.std.proofs.lemmas.Int.{ints}
use Rattle.pit_model.specs.Sum.{when}
use Rattle.pit_model.specs.Graph.{Graph, first_of, second_of}
use Rattle.pit_model.specs.Mine.{arcs, source, target}
use Rattle.optimality.specs.Check.{amount}
use Rattle.optimality.proofs.Adding.{excess_so_far, no_flow, so_far-none, so_far-more, so_far-skip, so_far-bound, when-between}
use Rattle.optimality.proofs.excess.add_flow.Goals as goal
use Rattle.optimality.proofs.excess.add_flow.Goals.{then-has_flow, else-has_flow}

pub loop-k-init : goal.loop-k-init
loop-k-init c u h = c.requires.values u h ∙ so_far-none c.args.mine.now c.args.flow.now u

pub take_off-requires-clause-small : goal.take_off-requires-clause-small
take_off-requires-clause-small c =
    let same : c.deref-graph.result.now.pairs ≡ c.args.mine.now.pairs = ap (λ (g : Graph). g.pairs) c.deref-graph.ensures ∙ c.graph.ensures.pairs in
    let count : length c.deref-graph.result.now.pairs ≡ arcs c.args.mine.now = ap length same in
    let k = c.loop-k.k in
    let u : ℕ = c.arc-from.result.0 in
    let at : c.arc-from.result.0 ≡ source c.args.mine.now c.loop-k.k = ap (λ q. q.0) c.arc-from.ensures ∙ ap (λ ps. first_of ps c.loop-k.k) same in
    let r = (c.law.ensures.graph.in_range c.loop-k.k (omega arith)).0 in
    let limits = c.law.ensures.limits in
    let below : u < c.args.mine.now.blocks = omega arith in
    let b = so_far-bound c.args.mine.now c.args.flow.now k u (omega (arith, limits.few_arcs)) (λ j h. c.requires.amounts j (omega (arith, c.requires.counted))) (limits.low u below) (limits.high u below) in
    let e = c.loop-k.invariant u below in
    let x = b.0 in let y = b.1 in
    (omega (arith, ints), omega (arith, ints))

pub add_to-requires-clause-small : goal.add_to-requires-clause-small
add_to-requires-clause-small c =
    let same : c.deref-graph.result.now.pairs ≡ c.args.mine.now.pairs = ap (λ (g : Graph). g.pairs) c.deref-graph.ensures ∙ c.graph.ensures.pairs in
    let count : length c.deref-graph.result.now.pairs ≡ arcs c.args.mine.now = ap length same in
    let k = c.loop-k.k in
    let u : ℕ = c.arc-from.result.1 in
    let at : c.arc-from.result.1 ≡ target c.args.mine.now c.loop-k.k = ap (λ q. q.1) c.arc-from.ensures ∙ ap (λ ps. second_of ps c.loop-k.k) same in
    let r = (c.law.ensures.graph.in_range c.loop-k.k (omega arith)).1 in
    let limits = c.law.ensures.limits in
    let below : u < c.args.mine.now.blocks = omega arith in
    let b = so_far-bound c.args.mine.now c.args.flow.now k u (omega (arith, limits.few_arcs)) (λ j h. c.requires.amounts j (omega (arith, c.requires.counted))) (limits.low u below) (limits.high u below) in
    let e = c.loop-k.invariant u below in
    let a = c.requires.amounts k (omega (arith, c.requires.counted)) in
    let w = when-between (eqb c.arc-from.result.0 u) (amount c.args.flow.now k) a in
    let t = c.take_off.ensures u in
    let x = b.0 in let y = b.1 in let p = w.0 in let q = w.1 in
    (omega (arith, ints), omega (arith, ints))

pub loop-k-preserved : goal.loop-k-preserved
loop-k-preserved c u h =
    let mine = c.args.mine.now in
    let flow = c.args.flow.now in
    let k = c.loop-k.k in
    let x = amount flow k in
    let same : c.deref-graph.result.now.pairs ≡ mine.pairs = ap (λ (g : Graph). g.pairs) c.deref-graph.ensures ∙ c.graph.ensures.pairs in
    let count : length c.deref-graph.result.now.pairs ≡ arcs mine = ap length same in
    elim c.if-has_flow.branch [
      | then-has_flow w ↦
          let from : w.arc-from.result.0 ≡ source mine k = ap (λ q. q.0) w.arc-from.ensures ∙ ap (λ ps. first_of ps k) same in
          let to : w.arc-from.result.1 ≡ target mine k = ap (λ q. q.1) w.arc-from.ensures ∙ ap (λ ps. second_of ps k) same in
          rw w.excesses-is (w.add_to.ensures u
          ∙ ap (λ y. y +ℤ when (eqb w.arc-from.result.1 u) x) (w.take_off.ensures u)
          ∙ ap (λ j. get_or c.loop-k.excesses u (pos 0) -ℤ when (eqb j u) x +ℤ when (eqb w.arc-from.result.1 u) x) from
          ∙ ap (λ j. get_or c.loop-k.excesses u (pos 0) -ℤ when (eqb (source mine k) u) x +ℤ when (eqb j u) x) to
          ∙ so_far-more mine flow k u (get_or c.loop-k.excesses u (pos 0)) (c.loop-k.invariant u h))
      | else-has_flow w ↦
          let low = (c.requires.amounts k (omega (arith, c.requires.counted))).0 in
          let none : x ≡ pos 0 = no_flow x low (sym c.has_flow.ensures ∙ w.if-has_flow.false) in
          rw w.excesses-is (so_far-skip mine flow k u (get_or c.loop-k.excesses u (pos 0)) none (c.loop-k.invariant u h))
    ]

pub returns : goal.returns
returns c u h =
    let same : c.deref-graph.result.now.pairs ≡ c.args.mine.now.pairs = ap (λ (g : Graph). g.pairs) c.deref-graph.ensures ∙ c.graph.ensures.pairs in
    let count : length c.deref-graph.result.now.pairs ≡ arcs c.args.mine.now = ap length same in
    let e : c.loop-k.k ≡ arcs c.args.mine.now = omega arith in
    c.loop-k.invariant u h ∙ ap (λ k. excess_so_far c.args.mine.now c.args.flow.now k u) e
