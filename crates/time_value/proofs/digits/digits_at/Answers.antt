use Rattle.time_value.proofs.Numbers.{AreDigits-prefix}
use Rattle.time_value.proofs.digits.digits_at.Goals as goal

pub returns-clause-digits : goal.returns-clause-digits
returns-clause-digits c =
    rw (c.split_at.ensures.front, c.digit_count.ensures.count) (AreDigits-prefix c.args.text.now)
