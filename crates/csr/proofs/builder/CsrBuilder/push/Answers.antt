-- A further target is a further arc of the open row.
use Rattle.std.proofs.Common.{◌≡◌, ◌-◌, ◌∷◌, [], ◌++◌, length, refl, ap, ◌∙◌, arith}
use Rattle.pit_model.specs.Graph.{Graph}
use Rattle.csr.specs.Built.{built_targets}
use Rattle.csr.specs.Rows.{pairs_of}
use Rattle.csr.proofs.Begun.{pairs_push}
use Rattle.csr.proofs.Built.{built_growing, built_more}
use Rattle.csr.proofs.builder.CsrBuilder.push.Goals as goal

pub returns-clause-added : goal.returns-clause-added
returns-clause-added c =
    let offsets = c.self.inside.offsets.items in
    let patterns = c.self.inside.patterns.items in
    let numbers = c.self.inside.numbers.items in
    let used = c.self.inside.used in
    let recent = c.self.inside.recent.items in
    let targets = built_targets offsets patterns numbers used in
    let size = c.self.invariant.shared.rows.count in
    let row : length offsets - 1 ≡ length patterns = omega arith in
    ap (λ q. pairs_of offsets (built_targets offsets patterns q used)) c.in_ok-push.ensures.items
    ∙ ap (pairs_of offsets) (built_more offsets patterns numbers used recent c.self.invariant c.args.target)
    ∙ pairs_push offsets (length targets) (built_growing offsets patterns numbers used recent c.self.invariant) targets refl c.args.target
    ∙ ap (λ u. pairs_of offsets targets ++ (u, c.args.target) ∷ []) row
    ∙ ap (λ (g : Graph). g.pairs ++ (g.blocks, c.args.target) ∷ []) c.self.view_is
