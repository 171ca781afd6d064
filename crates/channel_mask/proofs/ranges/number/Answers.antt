use Rattle.std.proofs.Common.{arith, get_or}
use Rattle.std.proofs.lemmas.Int.Digits.{digits_value_more}
use Rattle.std.proofs.lemmas.Str.{digit_value_digit}
use Rattle.channel_mask.proofs.Digits.{is_digit_at, room, ten_more}
use Rattle.channel_mask.proofs.ranges.number.Goals as goal

pub overflow_mul-number : goal.overflow_mul-number
overflow_mul-number c =
    let low = room c.args.digits.now c.loop-digit.digit-index c.loop-digit.number c.requires c.loop-digit-test.true
    c.loop-digit.invariant.bound in
    omega arith

pub overflow_sub-digit : goal.overflow_sub-digit
overflow_sub-digit c = (is_digit_at c.args.digits.now c.loop-digit.digit-index c.requires c.loop-digit-test.true).0

pub overflow_add-number : goal.overflow_add-number
overflow_add-number c =
    let low = room c.args.digits.now c.loop-digit.digit-index c.loop-digit.number c.requires c.loop-digit-test.true
    c.loop-digit.invariant.bound in
    let digit = is_digit_at c.args.digits.now c.loop-digit.digit-index c.requires c.loop-digit-test.true in
    omega (arith, c.from.ensures, digit.1)

pub loop-digit-preserved : goal.loop-digit-preserved
loop-digit-preserved c =
    let digits = c.args.digits.now in
    let i = c.loop-digit.digit-index in
    let digit = is_digit_at digits i c.requires c.loop-digit-test.true in
    let value = digit_value_digit (get_or digits i 0) digit in
    let more = digits_value_more 10 digits i c.loop-digit-test.true in
    record {
      bound = ten_more i c.loop-digit.number c.from.result c.loop-digit.invariant.bound
          (omega (arith, c.from.ensures, digit.1));
      value = omega (arith, c.from.ensures, c.loop-digit.invariant.value);
    }
