-- Numbers on the blocks of an instance that do not fall along its pairs: each level set is closed, and the numbers are the sum of their
-- level sets. So their weighted sum is at most the greatest number times the worth of the pit.
use Rattle.std.proofs.Common.{◌≡◌, ℕ, ◌<◌, sym, ◌∙◌, arith}
use Rattle.std.specs.Prelude.{ℤ, pos, ◌*ℤ◌, ◌≤ℤ◌, int_lt, Bool}
use Rattle.std.proofs.lemmas.Int.{ints}
use Rattle.pit_model.specs.Sum.{total, when}
use Rattle.pit_model.specs.declared.direction.Direction.TheVariants.{Least}
use Rattle.pit_model.specs.Pit.{IsPit, no_blocks_fixed}
use Rattle.pit_model.specs.Mine.{Instance, IsClosed, PairsInRange, arcs, source, target, value, worth}
use Rattle.pit_model.proofs.Pits.{closed_best}
use Rattle.pit_model.proofs.Sums.{total-same, total-le, total-swap}
use Rattle.schedule_model.proofs.Sums.{total-constant, total-levels}

module _ (nodes : Instance) (z : ℕ → ℤ) (m : ℕ) (range : PairsInRange nodes)
    (least : (i : ℕ) → i < nodes.blocks → pos 0 ≤ℤ z i) (most : (i : ℕ) → i < nodes.blocks → z i ≤ℤ pos m)
    (rises : (k : ℕ) → k < arcs nodes → z (source nodes k) ≤ℤ z (target nodes k)) where
  level : ℕ → ℕ → Bool
  level j i = int_lt (pos j) (z i)

  level_closed : (j : ℕ) → IsClosed nodes (level j)
  unfolding level
  level_closed j k h inside =
      let up = rises k h in
      grind (arith, ints)

  by_levels : total nodes.blocks (λ i. z i *ℤ value nodes i) ≡ total m (λ j. worth nodes (level j))
  unfolding level
  by_levels =
      total-same nodes.blocks (λ i. z i *ℤ value nodes i) (λ i. total m (λ j. when (int_lt (pos j) (z i)) (value nodes i))) (λ i h. sym (total-levels m (z i) (value nodes i) (least i h) (most i h)))
      ∙ total-swap nodes.blocks m (λ i j. when (int_lt (pos j) (z i)) (value nodes i))

  pub levels_bounded : (pit : ℕ → Bool) → IsPit Least nodes no_blocks_fixed pit → total nodes.blocks (λ i. z i *ℤ value nodes i) ≤ℤ (pos m *ℤ worth nodes pit)
  levels_bounded pit p =
      let a = by_levels in
      let b = total-le m (λ j. worth nodes (level j)) (λ j. worth nodes pit) (λ j h. closed_best p (level j) (level_closed j)) in
      let c = total-constant m (worth nodes pit) in
      omega (arith, ints)
