use Rattle.std.proofs.Common.{arith, lit<}
use Rattle.dec_value.proofs.Numerals.{digit_count-one, digit_count-ten, digit_count-le}
use Rattle.dec_value.proofs.digits.digit_count.Goals as goal

pub tens-init : goal.tens-init
tens-init c = record { so_far = omega arith; few = digit_count-le 38 c.args.number (lit< tt) c.requires }

pub tens-preserved : goal.tens-preserved
tens-preserved c = record {
  so_far = omega (arith, digit_count-ten c.tens.rest c.tens-test.true, c.tens.invariant.so_far);
  few = c.tens.invariant.few;
}

pub returns : goal.returns
returns c = omega (arith, digit_count-one c.tens.rest c.tens-test.false, c.tens.invariant.so_far)
