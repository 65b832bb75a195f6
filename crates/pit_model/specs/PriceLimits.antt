-- What revenues and costs may be, at their limits: these are lawful, and those are not.
use Rattle.std.specs.Prelude.{ℕ, ℤ, pos, ◌-ℤ◌, List, [], ◌∷◌, ◌<◌, ◌^◌, ◌+◌}
use Rattle.pit_model.specs.Deposit.{Deposit, IsAmount, IsPriced}

-- as many blocks, with no pairs
abbrev pub bare_deposit : ℕ → List ℤ → List ℤ → Deposit
bare_deposit blocks revenues costs = record { blocks = blocks; revenues = revenues; costs = costs; pairs = [] }

abbrev pub worthless : List ℤ
worthless = pos 0 ∷ []

pub record LimitsOfPrices : Type 0 where
  pub no_blocks : IsPriced (bare_deposit 0 [] [])
  pub nothing_gained : IsPriced (bare_deposit 1 worthless worthless)
  pub greatest_of_both : IsPriced (bare_deposit 1 (pos (10 ^ 18) ∷ []) (pos (10 ^ 18) ∷ []))
  pub no_greater_revenue : IsPriced (bare_deposit 1 (pos (10 ^ 18 + 1) ∷ []) worthless) → ⊥
  pub no_greater_cost : IsPriced (bare_deposit 1 worthless (pos (10 ^ 18 + 1) ∷ [])) → ⊥
  pub no_negative_revenue : IsPriced (bare_deposit 1 ((pos 0 -ℤ pos 1) ∷ []) worthless) → ⊥
  pub no_negative_cost : IsPriced (bare_deposit 1 worthless ((pos 0 -ℤ pos 1) ∷ [])) → ⊥
  pub no_missing_cost : IsPriced (bare_deposit 1 worthless []) → ⊥
  pub most_blocks : (revenues costs : List ℤ) → IsAmount (2 ^ 22) revenues → IsAmount (2 ^ 22) costs → IsPriced (bare_deposit (2 ^ 22) revenues costs)
  pub no_more_blocks : (blocks : ℕ) (revenues costs : List ℤ) → 2 ^ 22 < blocks → IsPriced (bare_deposit blocks revenues costs) → ⊥
