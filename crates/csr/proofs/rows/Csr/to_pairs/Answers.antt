-- The block is the row that the place lies in: the rows before it end at the place or before, and it ends after the place.
use Rattle.std.proofs.Common.{◌≡◌, ℕ, ◌+◌, ◌-◌, ◌<◌, List, [], ◌∷◌, ◌++◌, get_or, length, take, arith, ap, refl, sym, ◌∙◌}
use Rattle.std.proofs.lemmas.List.{take_more, take_all, get_or_default}
use Rattle.pit_model.specs.Graph.{Graph}
use Rattle.csr.specs.Rows.{row_at, pairs_of}
use Rattle.csr.proofs.Begun.{begun_rise, csr_grows}
use Rattle.csr.proofs.Spelled.{length-pairs_of, pair_same, pairs_of-at, row_at-where}
use Rattle.csr.proofs.rows.Csr.to_pairs.Goals as goal
use Rattle.csr.proofs.rows.Csr.to_pairs.Goals.{then-loop-block-test+else-index-k, else-loop-block-test}

pub loop-k-preserved : goal.loop-k-preserved
loop-k-preserved c =
    let offsets = c.self.inside.offsets.items in
    let targets = c.self.inside.targets.items in
    let k = c.loop-k.k in
    let block = c.loop-block.block in
    let here : k < length targets = omega arith in
    let row : row_at offsets k ≡ block = row_at-where offsets (begun_rise offsets (length targets) (csr_grows offsets (length offsets - 1) (length targets) c.self.invariant)) block k c.loop-block.invariant.row c.loop-block.invariant.ended
    (λ h. elim c.loop-block-test.branch [ then-loop-block-test+else-index-k w ↦ omega (arith, get_or_default offsets (block + 1) w.index.result.now 0 h, w.index.ensures, w.if-index-k.false) | else-loop-block-test w ↦ omega arith ]) in
    let next : get_or (pairs_of offsets targets) k (0, 0) ≡ (block, get_or targets k 0) = pairs_of-at offsets targets k here ∙ ap (λ (v : ℕ). (v, get_or targets k 0)) row in
    let size = length-pairs_of offsets targets in
    record {
      pairs = c.in_ok-push.ensures.items
          ∙ ap (λ (xs : List (ℕ × ℕ)). xs ++ (block, c.index-in-loop-k.result.now) ∷ []) c.loop-k.invariant.pairs
          ∙ ap (λ (x : ℕ × ℕ). take k (pairs_of offsets targets) ++ x ∷ []) (pair_same (block, c.index-in-loop-k.result.now) (block, get_or targets k 0) refl (c.index-in-loop-k.ensures ∙ get_or_default targets k c.index-in-loop-k.result.now 0 here) ∙ sym next)
          ∙ sym (take_more (pairs_of offsets targets) k (0, 0) (omega arith));
      row = c.loop-block.invariant.row;
      ended = λ v h. omega (arith, c.loop-block.invariant.ended v h);
    }

pub returns : goal.returns
returns c =
    let offsets = c.self.inside.offsets.items in
    let targets = c.self.inside.targets.items in
    let size = length-pairs_of offsets targets in
    c.loop-k.invariant.pairs ∙ take_all c.loop-k.k (pairs_of offsets targets) (omega arith) ∙ ap (λ (g : Graph). g.pairs) c.self.view_is
