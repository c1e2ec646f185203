use Rattle.std.proofs.Common.{◌≡◌, take}
use Rattle.time_value.specs.Digits.{number}
use Rattle.time_value.proofs.digits.year_number.Given as goal

abbrev pub invariant-digits : goal.invariant-digits
invariant-digits l = l.number ≡ number (take l.digit-index l.digits)
