-- A row begins at its offset, and ends at the next.
use Rattle.std.proofs.Common.{◌≡◌, ◌+◌, get_or, subst, ◌∙◌, arith}
use Rattle.std.proofs.lemmas.List.{get_or_default}
use Rattle.pit_model.specs.Graph.{Graph}
use Rattle.csr.proofs.Offsets.{AreOffsets}
use Rattle.csr.proofs.Patterns.{shared_offsets}
use Rattle.csr.proofs.shared.SharedRows.row.Goals as goal

pub returns-clause-inside : goal.returns-clause-inside
returns-clause-inside c =
    let offsets = c.self.inside.offsets.items in
    let rows : AreOffsets c.args.self.now.pairs offsets c.args.self.now.blocks = subst (λ (g : Graph). AreOffsets g.pairs offsets g.blocks) c.self.view_is (shared_offsets offsets c.self.inside.patterns.items c.self.inside.differences.items c.self.invariant) in
    let size = rows.size in
    let high = (rows.rises c.args.u c.requires).1 in
    let end : c.index-2.result.now ≡ get_or offsets (c.args.u + 1) 0 = c.index-2.ensures ∙ get_or_default offsets (c.args.u + 1) c.index-2.result.now 0 (omega (arith, c.requires)) in
    omega arith

pub returns-clause-own : goal.returns-clause-own
returns-clause-own c k l =
    let offsets = c.self.inside.offsets.items in
    let rows : AreOffsets c.args.self.now.pairs offsets c.args.self.now.blocks = subst (λ (g : Graph). AreOffsets g.pairs offsets g.blocks) c.self.view_is (shared_offsets offsets c.self.inside.patterns.items c.self.inside.differences.items c.self.invariant) in
    let size = rows.size in
    let begin : c.index.result.now ≡ get_or offsets c.args.u 0 = c.index.ensures ∙ get_or_default offsets c.args.u c.index.result.now 0 (omega (arith, c.requires)) in
    let end : c.index-2.result.now ≡ get_or offsets (c.args.u + 1) 0 = c.index-2.ensures ∙ get_or_default offsets (c.args.u + 1) c.index-2.result.now 0 (omega (arith, c.requires)) in (
      λ e. let there = rows.found c.args.u k c.requires l e in let low = there.0 in let high = there.1 in (omega arith, omega arith),
      λ there. let low = there.0 in let high = there.1 in rows.owns c.args.u k c.requires (omega arith) (omega arith),
    )
