-- The first of several places at which a condition does not hold.
use Rattle.std.specs.Prelude.{ℕ, ◌<◌}

pub record IsFirstWithout (Holds : ℕ → Type 0) (place : ℕ) : Type 0 where
  pub broken : Holds place → ⊥
  pub before : (i : ℕ) → i < place → Holds i
