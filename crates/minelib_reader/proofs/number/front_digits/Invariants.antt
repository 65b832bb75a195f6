-- The bytes passed are digits, and the value so far is the number that they write.
use Rattle.std.proofs.Common.{◌≡◌, true, ◌<◌, ◌^◌, take}
use Rattle.std.specs.Str.{all_ascii_digits}
use Rattle.std.specs.Str.Parse.{digits_value}
use Rattle.minelib_reader.proofs.number.front_digits.Given as goal

abbrev pub invariant-loop-i : goal.invariant-loop-i
invariant-loop-i l = record {
  digits : all_ascii_digits (take l.i l.text) ≡ true;
  value : l.value ≡ digits_value 10 (take l.i l.text);
  small : l.value < 10 ^ l.i;
}
