use Rattle.std.proofs.Common.{rules}
use Rattle.dec_value.proofs.Reading.{kept_integer}
use Rattle.dec_value.proofs.decimal.read_bytes.Goals as goal

pub invariant_of-result : goal.invariant_of-result
invariant_of-result c = kept_integer c.args.text.now c.without_trailing_zeros-places.result.now c.split_sign-negative.result.0
    c.split_at_point.result.0.now c.split_at_point.result.1.now (search rules) (search rules) (search rules)
    (c.without_trailing_zeros-places.ensures.lowest c.split_at_point.result.0.now)
    c.signed.result c.in-Some.magnitude c.signed.ensures c.in-Some.ensures.1 c.in-Some.ensures.0 c.if-places-gt-MOST_DIGITS.false
