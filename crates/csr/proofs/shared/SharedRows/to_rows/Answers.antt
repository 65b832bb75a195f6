-- Each arc lies in the row of its block, so all targets are written in the end.
use Rattle.std.proofs.Common.{◌≡◌, ℕ, ◌+◌, ◌-◌, List, length, get_or, ap, refl, sym, subst, ◌∙◌, arith, ⊎_elim}
use Rattle.std.proofs.lemmas.Bool.{cases_eq}
use Rattle.pit_model.specs.Graph.{Graph, first_of, second_of}
use Rattle.csr.specs.Rows.{pairs_of}
use Rattle.csr.specs.Shared.{shared_targets}
use Rattle.csr.proofs.Begun.{csr_sized}
use Rattle.csr.proofs.Patterns.{length-shared_pairs, shared_place, targets_are}
use Rattle.csr.proofs.shared.SharedRows.to_rows.Goals as goal

pub loop-u-preserved : goal.loop-u-preserved
loop-u-preserved c = record {
  size = c.loop-i.invariant.size;
  rows = λ k l below. ⊎_elim
      (λ (e : first_of c.args.self.now.pairs k ≡ c.loop-u.u).
      let there = (c.shared_row-row.ensures.own k l).0 e in
      let from = there.0 in
      let to = there.1 in
      let back : c.shared_row-row.result.start + (k - c.shared_row-row.result.start) ≡ k = omega arith in
      subst (λ j. get_or c.loop-i.targets.items j 0 ≡ second_of c.args.self.now.pairs j) back (c.loop-i.invariant.row (k - c.shared_row-row.result.start) (omega (arith, c.loop-i-test.false))))
      (λ (ne : first_of c.args.self.now.pairs k ≡ c.loop-u.u → ⊥). c.loop-i.invariant.rows k l (omega arith))
      (cases_eq (first_of c.args.self.now.pairs k) c.loop-u.u);
}

pub from_closed-requires : goal.from_closed-requires
from_closed-requires c =
    let offsets = c.self.inside.offsets.items in
    let patterns = c.self.inside.patterns.items in
    let differences = c.self.inside.differences.items in
    let count = ap (λ (g : Graph). length g.pairs) c.self.view_is in
    let long = length-shared_pairs offsets patterns differences c.self.invariant in
    let size = c.loop-u.invariant.size in
    rw (c.in_ok-from_slice.ensures.items ∙ c.deref.ensures.value) (csr_sized offsets (length patterns) (get_or offsets (length patterns) 0) (length c.loop-u.targets.items) c.self.invariant.rows (omega arith))

pub returns-clause-pairs : goal.returns-clause-pairs
returns-clause-pairs c =
    let offsets = c.self.inside.offsets.items in
    let patterns = c.self.inside.patterns.items in
    let differences = c.self.inside.differences.items in
    let count = ap (λ (g : Graph). length g.pairs) c.self.view_is in
    let blocks = ap (λ (g : Graph). g.blocks) c.self.view_is in
    let size = c.loop-u.invariant.size in
    let same : c.loop-u.targets.items ≡ shared_targets offsets patterns differences = targets_are offsets patterns differences c.self.invariant c.loop-u.targets.items (omega arith)
    (λ k l.
    let first = ap (λ (g : Graph). first_of g.pairs k) c.self.view_is in
    let below = (shared_place offsets patterns differences c.self.invariant (first_of (pairs_of offsets (shared_targets offsets patterns differences)) k) k l refl).0 in
    c.loop-u.invariant.rows k (omega arith) (omega (arith, c.loop-u-test.false))
    ∙ sym (ap (λ (g : Graph). second_of g.pairs k) c.self.view_is)) in
    c.from_closed.ensures.pairs
    ∙ ap (λ (s : List ℕ). pairs_of s c.loop-u.targets.items) (c.in_ok-from_slice.ensures.items ∙ c.deref.ensures.value)
    ∙ ap (pairs_of offsets) same
    ∙ ap (λ (g : Graph). g.pairs) c.self.view_is
