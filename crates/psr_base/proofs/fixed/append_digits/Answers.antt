use Rattle.std.proofs.Common.{◌∙◌, arith}
use Rattle.psr_base.proofs.FixedValue.{digit_more}
use Rattle.psr_base.proofs.fixed.append_digits.Goals as goal

pub loop-digit-preserved : goal.loop-digit-preserved
loop-digit-preserved c = record {
  bound = omega (arith, c.append_digit-number.ensures);
  value = λ n e. c.append_digit-number.ensures
      ∙ digit_more n c.loop-digit.digit-index c.loop-digit.number c.args.digits.now c.loop-digit-test.true
      (c.loop-digit.invariant.value n e);
}
