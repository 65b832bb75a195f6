-- What the commands write, of the bytes of their texts.
use Rattle.std.specs.Prelude.{◌≡◌, ℕ, ℤ, List, ◌++◌}
use Rattle.minelib_reader.specs.Device.{Progress}
use Rattle.schedule_model.specs.Problem.{Problem}
use Rattle.schedule_runs.specs.declared.verdict.Verdict.{Verdict}
use Rattle.schedule_runs.specs.ProblemRead.{SpellsProblem}
use Rattle.schedule_runs.specs.SharesRead.{SpellsShares}
use Rattle.schedule_runs.specs.Verdicts.{IsBoundOf, Says, bound_text, verdict_text}

-- the texts spell a problem and shares, of which this verdict is true, and exactly its text was written
pub record IsCheckedSchedule (text precedence schedule : List ℕ) (verdict : Verdict) (before after : Progress) : Type 0 where
  pub problem : Problem
  pub spelled : SpellsProblem text precedence problem
  pub shares : List ℕ
  pub shares_spelled : SpellsShares schedule problem shares
  pub says : Says problem shares verdict
  pub written : after.bytes ≡ before.bytes ++ verdict_text verdict
  pub no_failure : after.failures ≡ before.failures

-- the same, with a bound of the problem behind it
pub record IsCheckedAndBounded (text precedence schedule prices : List ℕ) (verdict : Verdict) (before after : Progress) : Type 0 where
  pub problem : Problem
  pub spelled : SpellsProblem text precedence problem
  pub shares : List ℕ
  pub shares_spelled : SpellsShares schedule problem shares
  pub says : Says problem shares verdict
  pub bound : ℤ
  pub bound_is : IsBoundOf problem prices bound
  pub written : after.bytes ≡ before.bytes ++ (verdict_text verdict ++ bound_text bound)
  pub no_failure : after.failures ≡ before.failures

-- the texts spell a problem and prices, and exactly the text of the bound at these prices was written
pub record IsBoundWritten (text precedence prices : List ℕ) (before after : Progress) : Type 0 where
  pub problem : Problem
  pub spelled : SpellsProblem text precedence problem
  pub bound : ℤ
  pub bound_is : IsBoundOf problem prices bound
  pub written : after.bytes ≡ before.bytes ++ bound_text bound
  pub no_failure : after.failures ≡ before.failures
