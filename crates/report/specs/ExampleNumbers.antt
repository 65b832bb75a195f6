-- Numbers as they are printed and read back, by their texts.
use Rattle.std.specs.Prelude.{◌≡◌, pos, neg_ℤ, Some, None, codes}
use Rattle.pit_model.specs.PitText.{with_six_decimals}
use Rattle.pit_model.specs.ShellText.{with_nine_decimals}
use Rattle.report.specs.PrintedNumbers.{units_of}

pub record PrintedExamples : Type 0 where
  pub six : with_six_decimals (neg_ℤ (pos 1500000)) ≡ codes "-1.500000"
  pub nine : with_nine_decimals (pos 5) ≡ codes "0.000000005"
  pub six_read : units_of 6 (codes "-1.500000") ≡ Some (neg_ℤ (pos 1500000))
  pub nine_read : units_of 9 (codes "0.000000005") ≡ Some (pos 5)
  pub few_decimals : units_of 6 (codes "1.5") ≡ None
  pub many_decimals : units_of 6 (codes "0.000000005") ≡ None
  pub no_digit_before : units_of 6 (codes ".500000") ≡ None
  pub no_digit_behind : units_of 6 (codes "1.50000x") ≡ None
  pub no_point : units_of 0 (codes "15") ≡ None
