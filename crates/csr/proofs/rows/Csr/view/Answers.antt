-- The rows that are kept.
use Rattle.std.proofs.Common.{ℕ, ◌-◌, List, length, ap, subst, ◌∙◌}
use Rattle.pit_model.specs.Graph.{Graph}
use Rattle.csr.specs.Rows.{IsCsr, pairs_of}
use Rattle.csr.proofs.Spelled.{of_lent}
use Rattle.csr.proofs.rows.Csr.view.Goals as goal

pub returns-clause-rows : goal.returns-clause-rows
returns-clause-rows c =
    let offsets = c.self.inside.offsets.items in
    let targets = c.self.inside.targets.items in
    subst (λ (g : Graph). IsCsr g.blocks (length c.deref-2.result.now) c.deref.result.now) c.self.view_is
    (of_lent (λ s f. IsCsr (length offsets - 1) (length f) s) offsets targets c.deref.result.now c.deref-2.result.now c.deref.ensures.value c.deref-2.ensures.value c.self.invariant)

pub returns-clause-pairs : goal.returns-clause-pairs
returns-clause-pairs c =
    ap (λ (s : List ℕ). pairs_of s c.deref-2.result.now) c.deref.ensures.value ∙ ap (pairs_of c.self.inside.offsets.items) c.deref-2.ensures.value ∙ ap (λ (g : Graph). g.pairs) c.self.view_is
