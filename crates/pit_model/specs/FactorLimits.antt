-- What a list of factors may be, at its limits: these lists are lawful, and those are not.
use Rattle.std.specs.Prelude.{ℕ, List, [], ◌∷◌, length, ◌<◌}
use Rattle.std.specs.List.{range_with_len}
use Rattle.pit_model.specs.Shells.{AreFactors}

pub record LimitsOfFactors : Type 0 where
  pub none : AreFactors []
  pub ends : AreFactors (0 ∷ 100000 ∷ [])
  pub a_thousand : AreFactors (range_with_len 0 1000)
  pub no_greater : AreFactors (100001 ∷ []) → ⊥
  pub no_equal : AreFactors (400 ∷ 400 ∷ []) → ⊥
  pub no_falling : AreFactors (2 ∷ 1 ∷ []) → ⊥
  pub no_more : (factors : List ℕ) → 1000 < length factors → AreFactors factors → ⊥
