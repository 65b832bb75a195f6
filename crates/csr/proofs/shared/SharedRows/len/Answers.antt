-- The last row ends at the number of arcs.
use Rattle.std.proofs.Common.{◌≡◌, ap, arith, length, get_or, ◌∙◌}
use Rattle.std.proofs.lemmas.List.{get_or_default}
use Rattle.pit_model.specs.Graph.{Graph}
use Rattle.csr.proofs.Patterns.{length-shared_pairs}
use Rattle.csr.proofs.shared.SharedRows.len.Goals as goal

pub returns : goal.returns
returns c =
    let offsets = c.self.inside.offsets.items in
    let patterns = c.self.inside.patterns.items in
    let size = c.self.invariant.rows.count in
    let last : c.len.result ≡ length patterns = omega arith in
    let at : c.index.result.now ≡ get_or offsets (length patterns) 0 =
    c.index.ensures ∙ get_or_default offsets c.len.result c.index.result.now 0 (omega arith) ∙ ap (λ k. get_or offsets k 0) last in
    let long = length-shared_pairs offsets patterns c.self.inside.differences.items c.self.invariant in
    let view = ap (λ (g : Graph). length g.pairs) c.self.view_is in
    omega arith
