-- One pair of the row more; before the row and behind it no pair is of the block.
use Rattle.std.proofs.Common.{◌≡◌, ◌<◌, ◌&&◌, length, arith, refl, subst, sym, ◌∙◌, ⊎_elim}
use Rattle.std.proofs.lemmas.Bool.{cases_eq, false≢true}
use Rattle.pit_model.specs.Graph.{second_of}
use Rattle.optimality.specs.Check.{amount, has, open_in, PairAllows}
use Rattle.optimality.proofs.conditions.row_allows.Goals as goal

pub loop-k-init : goal.loop-k-init
loop-k-init c j l e =
    let order = c.arcs_of-arcs.ensures.order in
    let inside = c.arcs_of-arcs.ensures.inside in
    let own = ((c.arcs_of-arcs.ensures.own j (omega arith)).0 e).0 in
    absurd (omega arith)

pub loop-k-preserved : goal.loop-k-preserved
loop-k-preserved c j l e =
    let pairs = c.args.graph.now.pairs in
    let inside = c.args.inside.now in
    let open_block = open_in c.args.fixed.now in
    let flow = c.args.flow.now in
    let u = c.args.u in
    ⊎_elim
    (λ (same : j ≡ c.loop-k.k).
    subst (λ m. PairAllows (has inside u) (has inside (second_of pairs m)) (open_block u && open_block (second_of pairs m)) (amount flow m)) (sym same)
    (subst (λ p. PairAllows (has inside u) (has inside p) (open_block u && open_block p) (amount flow c.loop-k.k)) c.needed-p.ensures
    (subst (λ b. PairAllows (has inside u) (has inside c.needed-p.result) b (amount flow c.loop-k.k)) c.are_open.ensures (c.arc_allows.ensures.0 c.if-not-arc_allows.false))))
    (λ (ne : j ≡ c.loop-k.k → ⊥). c.loop-k.invariant j (omega arith) e)
    (cases_eq j c.loop-k.k)

pub returns-then-not-arc_allows : goal.returns-then-not-arc_allows
returns-then-not-arc_allows c =
    let pairs = c.args.graph.now.pairs in
    let inside = c.args.inside.now in
    let open_block = open_in c.args.fixed.now in
    let flow = c.args.flow.now in
    let u = c.args.u in
    let k = c.loop-k.k in
    let within : k < length pairs = omega (arith, c.loop-k-test.true, c.arcs_of-arcs.ensures.inside) in
    let own = (c.arcs_of-arcs.ensures.own k within).1 (c.loop-k.auto.k, c.loop-k-test.true) in (
      λ off. absurd (false≢true off),
      λ all.
          sym c.if-not-arc_allows.true
          ∙ c.arc_allows.ensures.1
          (subst (λ b. PairAllows (has inside u) (has inside c.needed-p.result) b (amount flow k)) (sym c.are_open.ensures)
          (subst (λ p. PairAllows (has inside u) (has inside p) (open_block u && open_block p) (amount flow k)) (sym c.needed-p.ensures) (all k within own))),
    )

pub returns : goal.returns
returns c =
    let pairs = c.args.graph.now.pairs in (
      λ yes j l e.
          let below = ((c.arcs_of-arcs.ensures.own j l).0 e).1 in
          c.loop-k.invariant j (omega (arith, c.loop-k-test.false)) e,
      λ all. refl,
    )
