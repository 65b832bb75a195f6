-- The rows that the arcs are spelled by.
use Rattle.std.proofs.Common.{length, subst, sym}
use Rattle.pit_model.specs.Graph.{Graph}
use Rattle.csr.specs.Rows.{pairs_of, IsCsr}
use Rattle.csr.specs.Shared.{shared_targets}
use Rattle.csr.proofs.Offsets.{AreOffsets}
use Rattle.csr.proofs.Patterns.{length-shared_pairs, shared_offsets}
use Rattle.csr.proofs.shared.SharedRows.offsets.Goals as goal

pub returns-clause-rows : goal.returns-clause-rows
returns-clause-rows c =
    let offsets = c.self.inside.offsets.items in
    let patterns = c.self.inside.patterns.items in
    subst (λ (g : Graph). IsCsr g.blocks (length g.pairs) c.deref.result.now) c.self.view_is
    (subst (λ s. IsCsr (length patterns) (length (pairs_of offsets (shared_targets offsets patterns c.self.inside.differences.items))) s) (sym c.deref.ensures.value)
    (subst (λ places. IsCsr (length patterns) places offsets) (sym (length-shared_pairs offsets patterns c.self.inside.differences.items c.self.invariant)) c.self.invariant.rows))

pub returns-clause-own : goal.returns-clause-own
returns-clause-own c u k below l =
    let offsets = c.self.inside.offsets.items in
    let rows : AreOffsets c.args.self.now.pairs c.deref.result.now c.args.self.now.blocks =
    subst (λ s. AreOffsets c.args.self.now.pairs s c.args.self.now.blocks) (sym c.deref.ensures.value)
    (subst (λ (g : Graph). AreOffsets g.pairs offsets g.blocks) c.self.view_is (shared_offsets offsets c.self.inside.patterns.items c.self.inside.differences.items c.self.invariant)) in
    (λ e. rows.found u k below l e, λ there. rows.owns u k below there.0 there.1)
