-- The row begins at its offset, and its differences at its pattern.
use Rattle.std.proofs.Common.{◌≡◌, ℕ, ◌+◌, ◌-◌, ◌<◌, ◌≤◌, List, length, get_or, take, drop, ap, subst, sym, ◌∙◌, arith}
use Rattle.std.proofs.lemmas.List.{get_or_default, get_or-drop, get_or-take, length-drop, length-take-le}
use Rattle.pit_model.specs.Graph.{Graph, second_of}
use Rattle.csr.specs.Shared.{target_after}
use Rattle.csr.proofs.Offsets.{AreOffsets}
use Rattle.csr.proofs.Patterns.{second_shared, shared_offsets}
use Rattle.csr.proofs.shared.SharedRows.shared_row.Goals as goal

module _ (whole differences : List ℕ) (begin count : ℕ) (is : whole ≡ differences) (inside : begin + count ≤ length differences) where
  length_piece : length (take (begin + count - begin) (drop begin whole)) ≡ count
  length_piece =
      let long = ap (λ (q : List ℕ). length q) is in
      let rest = length-drop begin whole in
      let size = length-take-le (begin + count - begin) (drop begin whole) (omega arith) in
      omega arith

  piece_at : (i : ℕ) → i < count → get_or (take (begin + count - begin) (drop begin whole)) i 0 ≡ get_or differences (begin + i) 0
  piece_at i l = get_or-take (begin + count - begin) (drop begin whole) i 0 (omega arith) ∙ get_or-drop begin whole i 0 ∙ ap (λ (q : List ℕ). get_or q (begin + i) 0) is

pub returns-clause-inside : goal.returns-clause-inside
returns-clause-inside c =
    let offsets = c.self.inside.offsets.items in
    let patterns = c.self.inside.patterns.items in
    let rows : AreOffsets c.args.self.now.pairs offsets c.args.self.now.blocks = subst (λ (g : Graph). AreOffsets g.pairs offsets g.blocks) c.self.view_is (shared_offsets offsets patterns c.self.inside.differences.items c.self.invariant) in
    let size = rows.size in
    let low = (rows.rises c.args.u c.requires).0 in
    let high = (rows.rises c.args.u c.requires).1 in
    let begin : c.index-start.result.now ≡ get_or offsets c.args.u 0 = c.index-start.ensures ∙ get_or_default offsets c.args.u c.index-start.result.now 0 (omega (arith, c.requires)) in
    let end : c.index.result.now ≡ get_or offsets (c.args.u + 1) 0 = c.index.ensures ∙ get_or_default offsets (c.args.u + 1) c.index.result.now 0 (omega (arith, c.requires)) in
    let few = ap (λ (g : Graph). g.blocks) c.self.view_is in
    let pattern : c.index-2.result.now ≡ get_or patterns c.args.u 0 = c.index-2.ensures ∙ get_or_default patterns c.args.u c.index-2.result.now 0 (omega (arith, c.requires)) in
    let inside = c.self.invariant.inside c.args.u (omega (arith, c.requires)) in
    let long = length_piece c.deref.result.now c.self.inside.differences.items c.index-2.result.now (c.index.result.now - c.index-start.result.now) c.deref.ensures.value (omega arith) in
    omega arith

pub returns-clause-own : goal.returns-clause-own
returns-clause-own c k l =
    let offsets = c.self.inside.offsets.items in
    let patterns = c.self.inside.patterns.items in
    let rows : AreOffsets c.args.self.now.pairs offsets c.args.self.now.blocks = subst (λ (g : Graph). AreOffsets g.pairs offsets g.blocks) c.self.view_is (shared_offsets offsets patterns c.self.inside.differences.items c.self.invariant) in
    let size = rows.size in
    let low = (rows.rises c.args.u c.requires).0 in
    let begin : c.index-start.result.now ≡ get_or offsets c.args.u 0 = c.index-start.ensures ∙ get_or_default offsets c.args.u c.index-start.result.now 0 (omega (arith, c.requires)) in
    let end : c.index.result.now ≡ get_or offsets (c.args.u + 1) 0 = c.index.ensures ∙ get_or_default offsets (c.args.u + 1) c.index.result.now 0 (omega (arith, c.requires)) in
    let few = ap (λ (g : Graph). g.blocks) c.self.view_is in
    let pattern : c.index-2.result.now ≡ get_or patterns c.args.u 0 = c.index-2.ensures ∙ get_or_default patterns c.args.u c.index-2.result.now 0 (omega (arith, c.requires)) in
    let inside = c.self.invariant.inside c.args.u (omega (arith, c.requires)) in
    let long = length_piece c.deref.result.now c.self.inside.differences.items c.index-2.result.now (c.index.result.now - c.index-start.result.now) c.deref.ensures.value (omega arith) in (
      λ e. let there = rows.found c.args.u k c.requires l e in let from = there.0 in let to = there.1 in (omega arith, omega arith),
      λ there. let from = there.0 in let to = there.1 in rows.owns c.args.u k c.requires (omega arith) (omega arith),
    )

pub returns-clause-targets : goal.returns-clause-targets
returns-clause-targets c i l =
    let offsets = c.self.inside.offsets.items in
    let patterns = c.self.inside.patterns.items in
    let differences = c.self.inside.differences.items in
    let size = c.self.invariant.rows.count in
    let few = ap (λ (g : Graph). g.blocks) c.self.view_is in
    let below : c.args.u < length patterns = omega (arith, c.requires) in
    let low = c.self.invariant.rows.rising c.args.u below in
    let begin : c.index-start.result.now ≡ get_or offsets c.args.u 0 = c.index-start.ensures ∙ get_or_default offsets c.args.u c.index-start.result.now 0 (omega arith) in
    let end : c.index.result.now ≡ get_or offsets (c.args.u + 1) 0 = c.index.ensures ∙ get_or_default offsets (c.args.u + 1) c.index.result.now 0 (omega arith) in
    let pattern : c.index-2.result.now ≡ get_or patterns c.args.u 0 = c.index-2.ensures ∙ get_or_default patterns c.args.u c.index-2.result.now 0 below in
    let inside = c.self.invariant.inside c.args.u below in
    let count : ℕ = c.index.result.now - c.index-start.result.now in
    let long = length_piece c.deref.result.now differences c.index-2.result.now count c.deref.ensures.value (omega arith) in
    let k : ℕ = c.index-start.result.now + i in
    let place : c.index-2.result.now + i ≡ get_or patterns c.args.u 0 + (k - get_or offsets c.args.u 0) = omega arith in
    ap (target_after c.args.u) (piece_at c.deref.result.now differences c.index-2.result.now count c.deref.ensures.value (omega arith) i (omega arith) ∙ ap (λ j. get_or differences j 0) place)
    ∙ sym (second_shared offsets patterns differences c.self.invariant c.args.u k below (omega arith) (omega arith))
    ∙ ap (λ (g : Graph). second_of g.pairs k) c.self.view_is
