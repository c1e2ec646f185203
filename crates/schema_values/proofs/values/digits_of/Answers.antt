use Rattle.std.proofs.Common.{◌≡◌, arith, rules, true}
use Rattle.schema_values.specs.Values.{is_digit}
use Rattle.schema_values.proofs.Digits.{number_next, digits_next}
use Rattle.schema_values.proofs.values.digits_of.Goals as goal

pub loop-b-preserved : goal.loop-b-preserved
loop-b-preserved c = record {
  small = omega arith;
  digits = digits_next _ _ c.loop-b-test.true (search rules) c.loop-b.invariant.digits;
  same = number_next 4294967296 _ _ c.loop-b.number _ c.loop-b-test.true (omega arith) c.loop-b.invariant.same;
}
