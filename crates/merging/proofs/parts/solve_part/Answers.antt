-- The blocks of the part are blocks of the whole, so their values are within the limits.
use Rattle.std.proofs.Common.{ℕ, ◌<◌, ◌∙◌, arith, ap, sym, subst, List, get_or, length}
use Rattle.pit_model.specs.Graph.{Graph}
use Rattle.merging.specs.Parts.{graph_of_instance}
use Rattle.merging.proofs.SolvedPart.{blocks_below}
use Rattle.merging.proofs.parts.solve_part.Goals as goal

pub values_at-requires : goal.values_at-requires
values_at-requires c =
    subst (λ (xs : List ℕ). (u : ℕ) → u < length xs → get_or xs u 0 < c.args.instance.now.blocks) (sym c.deref.ensures.value)
    (blocks_below (graph_of_instance c.args.instance.now) c.args.part.graph c.requires.0 c.args.part.blocks.items c.requires.1)

pub with_counters-mine-requires-clause-low : goal.with_counters-mine-requires-clause-low
with_counters-mine-requires-clause-low c u l =
    let count = ap (λ (g : Graph). g.blocks) c.in_ok-new.ensures.ok ∙ c.requires.1.count in
    let size = ap (λ (xs : List ℕ). length xs) c.deref.ensures.value in
    let same = c.in_ok-values.ensures.each u (omega arith) in
    let at = ap (λ xs. get_or xs u 0) c.deref.ensures.value in
    let below = blocks_below (graph_of_instance c.args.instance.now) c.args.part.graph c.requires.0 c.args.part.blocks.items c.requires.1 u (omega arith) in
    rw same (c.law.ensures.limits.low (get_or c.deref.result.now u 0) (omega arith))

pub with_counters-mine-requires-clause-high : goal.with_counters-mine-requires-clause-high
with_counters-mine-requires-clause-high c u l =
    let count = ap (λ (g : Graph). g.blocks) c.in_ok-new.ensures.ok ∙ c.requires.1.count in
    let size = ap (λ (xs : List ℕ). length xs) c.deref.ensures.value in
    let same = c.in_ok-values.ensures.each u (omega arith) in
    let at = ap (λ xs. get_or xs u 0) c.deref.ensures.value in
    let below = blocks_below (graph_of_instance c.args.instance.now) c.args.part.graph c.requires.0 c.args.part.blocks.items c.requires.1 u (omega arith) in
    rw same (c.law.ensures.limits.high (get_or c.deref.result.now u 0) (omega arith))
