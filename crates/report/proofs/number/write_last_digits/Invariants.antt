-- The last digits of what is left of the number, and the digits written behind them, are those of the number.
use Rattle.std.proofs.Common.{◌≡◌, ◌++◌, drop, length}
use Rattle.pit_model.specs.PitText.{last_digits}
use Rattle.report.proofs.number.write_last_digits.Given as goal

abbrev pub invariant-loop-i : goal.invariant-loop-i
invariant-loop-i l = record {
  size : length l.digits ≡ length l.fn.digits;
  digits : last_digits l.i l.rest ++ drop l.i l.digits ≡ last_digits (length l.fn.digits) l.number;
}
