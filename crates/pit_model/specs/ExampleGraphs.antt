-- Small graphs, what they fall into, and the cycle that a refusal of pairs names; and how large a mine may be.
use Rattle.std.specs.Prelude.{◌≡◌, ℕ, ◌<◌, ◌≤◌, ℤ, pos, neg_ℤ, ◌≤ℤ◌, [], ◌∷◌, replicate}
use Rattle.pit_model.specs.Graph.{Graph, IsGraph}
use Rattle.pit_model.specs.Mine.{Instance, instance_of, arcs, value}
use Rattle.pit_model.specs.Part.{IsClass, IsPart}
use Rattle.pit_model.specs.Cycle.{IsCycleList}
use Rattle.pit_model.specs.Fixed.{is_among}
use Rattle.pit_model.specs.Size.{most_blocks}
use Rattle.pit_model.specs.Limits.{IsWithinLimits}
use Rattle.pit_model.specs.JournalText.{most_seat}

-- five blocks, of which 2 needs 0, and 3 needs 1
abbrev pub five : Graph
five = record { blocks = 5; pairs = (2, 0) ∷ (3, 1) ∷ [] }

-- the law: they fall into three parts, named by their least blocks; and pairs stand in order, without a cycle
pub record PartsOfFive : Type 0 where
  pub first : IsClass five (is_among (0 ∷ 2 ∷ [])) 0
  pub second : IsClass five (is_among (1 ∷ 3 ∷ [])) 1
  pub alone : IsClass five (is_among (4 ∷ [])) 4
  pub not_by_greatest : IsClass five (is_among (0 ∷ 2 ∷ [])) 2 → ⊥
  pub not_half : IsClass five (is_among (0 ∷ [])) 0 → ⊥
  pub renumbered : IsPart five (is_among (1 ∷ 3 ∷ [])) (1 ∷ 3 ∷ []) (record { blocks = 2; pairs = (1, 0) ∷ [] })
  pub in_order : IsGraph 5 ((2, 0) ∷ (3, 1) ∷ [])
  pub not_out_of_order : IsGraph 5 ((3, 1) ∷ (2, 0) ∷ []) → ⊥
  pub not_twice : IsGraph 5 ((2, 0) ∷ (2, 0) ∷ []) → ⊥
  pub not_round : IsGraph 5 ((0, 2) ∷ (2, 0) ∷ []) → ⊥
  pub not_outside : IsGraph 5 ((5, 0) ∷ []) → ⊥

-- the law: of two needs the lesser is followed; and the way into a cycle is left out
pub record CyclesOfSmallGraphs : Type 0 where
  pub least_need : IsCycleList ((0, 1) ∷ (0, 2) ∷ (1, 0) ∷ (2, 0) ∷ []) 3 (0 ∷ 1 ∷ [])
  pub way_in : IsCycleList ((0, 1) ∷ (1, 2) ∷ (2, 1) ∷ []) 4 (1 ∷ 2 ∷ [])

-- the law: so large a mine may be, and no larger
pub record LimitsOfMines : Type 0 where
  pub taken :
      (n m : ℕ) (worth : ℤ) → n ≤ 4194304 → m ≤ 67108864 → neg_ℤ (pos 100000000000000000000000) ≤ℤ worth → worth ≤ℤ pos 100000000000000000000000
      → IsWithinLimits (instance_of n (replicate n worth) (replicate m (0, 0)))
  pub blocks : (mine : Instance) → IsWithinLimits mine → mine.blocks ≤ 4194304
  pub pairs : (mine : Instance) → IsWithinLimits mine → arcs mine ≤ 67108864
  pub most : (mine : Instance) (u : ℕ) → IsWithinLimits mine → u < mine.blocks → value mine u ≤ℤ pos 100000000000000000000000
  pub least : (mine : Instance) (u : ℕ) → IsWithinLimits mine → u < mine.blocks → neg_ℤ (pos 100000000000000000000000) ≤ℤ value mine u
  pub size : most_blocks ≡ 4194304
  pub seats : most_seat ≡ 64
