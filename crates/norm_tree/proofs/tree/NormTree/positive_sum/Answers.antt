-- The sum so far, and one block more.
use Rattle.std.proofs.Common.{◌≡◌, ℕ, ◌≤◌, ◌<◌, ◌+◌, ◌*◌, ◌^◌, ap, ◌∙◌, add-one, arith, rules}
use Rattle.std.specs.Prelude.{ℤ, pos, ◌+ℤ◌, ◌≤ℤ◌}
use Rattle.std.proofs.lemmas.Int.{ints, to_z-of_z}
use mir.Val.{SFits, to_z, of_z}
use mir.Syntax.{w128}
use Rattle.pit_model.specs.Graph.{Graph}
use Rattle.pit_model.specs.Mine.{Instance}
use Rattle.pit_model.specs.Sum.{total}
use Rattle.pit_model.specs.Limits.{most_worth}
use Rattle.norm_tree.proofs.tree.NormTree.positive_sum.Goals as goal

one_more : (s x : ℤ) (k n : ℕ) (f : ℕ → ℤ) → s ≡ total k f → x ≡ f k → pos 0 ≤ℤ s → s ≤ℤ pos (k * most_worth) → pos 0 ≤ℤ x → x ≤ℤ pos most_worth → k < n → n ≤ 2 ^ 22
    → (to_z w128 (of_z w128 (s +ℤ to_z w128 (of_z w128 x))) ≡ total (k + 1) f) × (pos 0 ≤ℤ to_z w128 (of_z w128 (s +ℤ to_z w128 (of_z w128 x)))) × (to_z w128 (of_z w128 (s +ℤ to_z w128 (of_z w128 x))) ≤ℤ pos ((k + 1) * most_worth))
one_more s x k n f before here low high least most l few =
    let fits : SFits w128 x = search (rules, ints) in
    let fits_sum : SFits w128 (s +ℤ x) = search (rules, ints) in
    rw (to_z-of_z w128 x fits, to_z-of_z w128 (s +ℤ x) fits_sum, add-one k) (omega (arith, ints), omega (arith, ints), omega (arith, ints))

pub loop-block-preserved : goal.loop-block-preserved
loop-block-preserved c =
    let before = c.loop-block.invariant in
    let part = c.positive_part-sum.ensures in
    let n = c.n-block-end.ensures ∙ ap (λ (g : Graph). g.blocks) c.deref.ensures ∙ c.graph.ensures.blocks ∙ ap (λ (m : Instance). m.blocks) c.instance.ensures in
    let l = c.loop-block-test.true in
    let all = one_more (to_z w128 c.loop-block.sum-bits) c.positive_part-sum.result c.loop-block.block c.args.self.now.mine.blocks _ before.sum part.part before.low before.high part.least part.most (omega arith) c.law.ensures.instance.limits.few_blocks in
    record { sum = all.0; low = all.1; high = all.2 }
