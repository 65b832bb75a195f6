-- A value of i digits is below 10^i, and each turn takes one digit more; a byte that is no digit ends it with no number.
use Rattle.std.proofs.Common.{sym, ◌∙◌, arith}
use Rattle.std.proofs.lemmas.Grind.{common_steps}
use Rattle.minelib_reader.proofs.Numbers.{pow_ten, room_for_digit, one_digit_more, all_digits_more, not_all_digits, no_number}
use Rattle.minelib_reader.proofs.number.long_digits.Goals as goal

pub overflow_mul-value : goal.overflow_mul-value
overflow_mul-value c = let h = room_for_digit 37 c.loop-i.value c.loop-i.i c.loop-i.invariant.small (omega arith) in omega (arith, h)

pub overflow_add-value : goal.overflow_add-value
overflow_add-value c =
    let h = room_for_digit 37 c.loop-i.value c.loop-i.i c.loop-i.invariant.small (omega arith) in
    let f = c.from.ensures in
    omega (arith, h, f, c.type_inv.text c.loop-i.i)

pub loop-i-preserved : goal.loop-i-preserved
loop-i-preserved c =
    let text = c.args.text.now in
    let i = c.loop-i.i in
    let is = sym c.is_ascii_digit.ensures.value ∙ c.if-not-is_ascii_digit.false in
    let number = one_digit_more text i (omega arith) is in
    record {
      digits = all_digits_more text i (omega arith) c.loop-i.invariant.digits is;
      value = omega (arith, number, c.loop-i.invariant.value, c.from.ensures);
      small = grind (arith, common_steps);
    }

pub returns-then-not-is_ascii_digit-clause-value : goal.returns-then-not-is_ascii_digit-clause-value
returns-then-not-is_ascii_digit-clause-value c =
    let is = sym c.is_ascii_digit.ensures.value ∙ c.if-not-is_ascii_digit.true in
    sym (no_number c.args.most c.args.text.now (not_all_digits c.args.text.now c.loop-i.i (omega arith) is))

pub returns-clause-bounded : goal.returns-clause-bounded
returns-clause-bounded c =
    let le = pow_ten c.loop-i.i c.args.most (omega arith) in
    omega (arith, le, c.loop-i.invariant.small)
