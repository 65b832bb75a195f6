-- Numbers as they are printed and read back, byte by byte.
use Rattle.std.proofs.Common.{refl}
use Rattle.std.specs.Fmt.{digits}
use Rattle.minelib_reader.specs.Number.{cut_at}
use Rattle.pit_model.specs.PitText.{with_decimals}
use Rattle.report.specs.ExampleNumbers.{PrintedExamples}
use Rattle.report.specs.PrintedNumbers.{units_of}

pub printed_examples : PrintedExamples
unfolding cut_at digits units_of with_decimals
printed_examples = record {
  six = refl;
  nine = refl;
  six_read = refl;
  nine_read = refl;
  few_decimals = refl;
  many_decimals = refl;
  no_digit_before = refl;
  no_digit_behind = refl;
  no_point = refl;
}
