use Rattle.std.proofs.Common.{arith, ◌∙◌}
use Rattle.dec_value.proofs.Numerals.{too_many, number-step, digits-rest, digit-at}
use Rattle.dec_value.proofs.digits.append_digits.Goals as goal

pub returns-then-value-ge-FULL : goal.returns-then-value-ge-FULL
returns-then-value-ge-FULL c =
    λ low. omega (arith, too_many c.digits.value c.args.digits.now c.digits.digit-index c.digits-test.true c.if-value-ge-FULL.true, c.digits.invariant.so_far)

pub digits-preserved : goal.digits-preserved
digits-preserved c =
    let digit = digit-at c.args.digits.now c.digits.digit-index c.digits-test.true c.digits.invariant.digits in record {
      digits = digits-rest c.args.digits.now c.digits.digit-index c.digits-test.true c.digits.invariant.digits;
      narrow = omega (arith, digit.0, digit.1, c.from.ensures, c.if-value-ge-FULL.false);
      so_far = rw c.from.ensures (number-step c.digits.value c.args.digits.now c.digits.digit-index c.digits-test.true digit.0 digit.1 ∙ c.digits.invariant.so_far);
    }
