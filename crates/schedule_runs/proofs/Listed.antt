-- Numbers of lines of VALUE and of USE within their ranges, by their place in the line.
use Rattle.std.proofs.Common.{◌≡◌, ℕ, ◌+◌, ◌*◌, ◌%◌, ◌<◌, List, length, subst, arith}
use Rattle.std.specs.Prelude.{ℤ, ◌≤ℤ◌}
use Rattle.scheduling.specs.declared.parts.Sizes.{Sizes}
use Rattle.schedule_runs.specs.Limited.{AreInRangeOf, most_of_use, most_of_value, number_at}
use Rattle.schedule_runs.specs.declared.broken_limit.Section.TheVariants.{Uses, Values}

module _ (sizes : Sizes) (values : List ℤ) (are : AreInRangeOf sizes Values values) (k : ℕ) where
  pub value_high : (i place : ℕ) → i ≡ 3 * k + place → place < 3 → i < length values → number_at values i ≤ℤ most_of_value sizes place
  value_high i place is few inside =
      let rest : i % 3 ≡ place = omega arith in
      subst (λ m. number_at values i ≤ℤ most_of_value sizes m) rest (are i inside).high

module _ (sizes : Sizes) (uses : List ℤ) (are : AreInRangeOf sizes Uses uses) (k : ℕ) where
  pub use_high : (i place : ℕ) → i ≡ 4 * k + place → place < 4 → i < length uses → number_at uses i ≤ℤ most_of_use sizes place
  use_high i place is few inside =
      let rest : i % 4 ≡ place = omega arith in
      subst (λ m. number_at uses i ≤ℤ most_of_use sizes m) rest (are i inside).high
