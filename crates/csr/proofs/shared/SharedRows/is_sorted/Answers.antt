-- Arcs are sorted where no target of a row is at or below the one before it.
use Rattle.std.proofs.Common.{◌≡◌, ℕ, ◌+◌, ◌-◌, ◌<◌, length, ap, arith, refl, subst, sym, ◌∙◌, ⊎_elim}
use Rattle.std.proofs.lemmas.Bool.{cases_eq}
use Rattle.pit_model.specs.Graph.{Graph, first_of, second_of}
use Rattle.csr.proofs.Offsets.{AreOffsets}
use Rattle.csr.proofs.Patterns.{shared_offsets, shared_place}
use Rattle.csr.proofs.Rising.{targets_rising}
use Rattle.csr.proofs.shared.SharedRows.is_sorted.Goals as goal

pub loop-u-preserved : goal.loop-u-preserved
loop-u-preserved c = λ k l same below. ⊎_elim
    (λ (e : first_of c.args.self.now.pairs k ≡ c.loop-u.u).
    let start = c.shared_row-row.result.start in
    let here = (c.shared_row-row.ensures.own k (omega arith)).0 e in
    let there = (c.shared_row-row.ensures.own (k + 1) l).0 (sym same ∙ e) in
    let from = here.0 in
    let to = there.1 in
    let back : start + (k - start) ≡ k = omega arith in
    let next : start + (k - start + 1) ≡ k + 1 = omega arith in
    let low = ap (second_of c.args.self.now.pairs) back in
    let high = ap (second_of c.args.self.now.pairs) next in
    let rise = c.loop-i.invariant.row (k - start) (omega (arith, c.loop-i-test.false)) in
    omega arith)
    (λ (ne : first_of c.args.self.now.pairs k ≡ c.loop-u.u → ⊥). c.loop-u.invariant k l same (omega arith))
    (cases_eq (first_of c.args.self.now.pairs k) c.loop-u.u)

pub returns : goal.returns
returns c =
    let offsets = c.self.inside.offsets.items in
    let patterns = c.self.inside.patterns.items in
    let differences = c.self.inside.differences.items in
    let rows : AreOffsets c.args.self.now.pairs offsets c.args.self.now.blocks = subst (λ (g : Graph). AreOffsets g.pairs offsets g.blocks) c.self.view_is (shared_offsets offsets patterns differences c.self.invariant) in
    let firsts : (k : ℕ) → k < length c.args.self.now.pairs → first_of c.args.self.now.pairs k < c.args.self.now.blocks =
    subst (λ (g : Graph). (k : ℕ) → k < length g.pairs → first_of g.pairs k < g.blocks) c.self.view_is (λ k l. (shared_place offsets patterns differences c.self.invariant _ k l refl).0) in
    let few = ap (λ (g : Graph). g.blocks) c.self.view_is in (
      λ _. targets_rising c.args.self.now.pairs offsets c.args.self.now.blocks firsts rows (λ k l same. c.loop-u.invariant k l same (omega (arith, firsts k (omega arith), c.loop-u-test.false))),
      λ _. refl,
    )
