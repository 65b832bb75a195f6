-- A value within the limits stays so with its sign turned.
use Rattle.std.proofs.Common.{◌<◌, arith, ap}
use Rattle.std.proofs.lemmas.Int.{ints}
use Rattle.pit_model.specs.Graph.{Graph}
use Rattle.pit_search.proofs.dual.dual_instance.Goals as goal

pub with_counters-dual-requires-clause-high : goal.with_counters-dual-requires-clause-high
with_counters-dual-requires-clause-high c u l =
    let held = ap (λ (g : Graph). g.blocks) c.in_ok-new.ensures.ok in
    let same = c.in_ok-reversed.ensures.reversed.same_blocks in
    let count = ap (λ (g : Graph). g.blocks) c.deref-graph.ensures in
    let size = c.graph.ensures.blocks in
    let inside : u < c.args.mine.now.blocks = omega arith in
    let low = c.law.ensures.limits.low u inside in
    rw (c.in_ok-values.ensures.each u inside) (omega (arith, ints))

pub with_counters-dual-requires-clause-low : goal.with_counters-dual-requires-clause-low
with_counters-dual-requires-clause-low c u l =
    let held = ap (λ (g : Graph). g.blocks) c.in_ok-new.ensures.ok in
    let same = c.in_ok-reversed.ensures.reversed.same_blocks in
    let count = ap (λ (g : Graph). g.blocks) c.deref-graph.ensures in
    let size = c.graph.ensures.blocks in
    let inside : u < c.args.mine.now.blocks = omega arith in
    let high = c.law.ensures.limits.high u inside in
    rw (c.in_ok-values.ensures.each u inside) (omega (arith, ints))
