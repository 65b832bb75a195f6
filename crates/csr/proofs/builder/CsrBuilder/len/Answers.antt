-- The closed rows have the arcs up to the last offset, and the open row has an arc for each number after the differences.
use Rattle.std.proofs.Common.{◌≡◌, ap, arith, get_or, length, ◌∙◌}
use Rattle.std.proofs.lemmas.List.{get_or_default}
use Rattle.pit_model.specs.Graph.{Graph}
use Rattle.csr.specs.Built.{built_targets}
use Rattle.csr.proofs.Built.{length-built}
use Rattle.csr.proofs.Spelled.{length-pairs_of}
use Rattle.csr.proofs.builder.CsrBuilder.len.Goals as goal

pub returns : goal.returns
returns c =
    let offsets = c.self.inside.offsets.items in
    let patterns = c.self.inside.patterns.items in
    let numbers = c.self.inside.numbers.items in
    let used = c.self.inside.used in
    let size = c.self.invariant.shared.rows.count in
    let long = length-pairs_of offsets (built_targets offsets patterns numbers used) in
    let count = length-built offsets patterns numbers used c.self.inside.recent.items c.self.invariant in
    let view = ap (λ (g : Graph). length g.pairs) c.self.view_is in
    let row : c.len-2.result ≡ length patterns = omega arith in
    let closed : c.index.result.now ≡ get_or offsets (length patterns) 0 = c.index.ensures ∙ get_or_default offsets c.len-2.result c.index.result.now 0 (omega arith) ∙ ap (λ v. get_or offsets v 0) row in
    omega arith
