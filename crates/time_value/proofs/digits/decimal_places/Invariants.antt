use Rattle.std.proofs.Common.{◌≡◌, ◌+◌, ◌-◌, ◌*◌, ◌^◌, ◌≤◌, length, take}
use Rattle.time_value.specs.Digits.{number}
use Rattle.time_value.proofs.digits.decimal_places.Given as goal

abbrev pub invariant-digits : goal.invariant-digits
invariant-digits l =
    (l.digit-index ≤ length l.digits) × (l.place ≡ 10 ^ (9 - l.digit-index)) × (l.nanosecond + l.place ≤ 1000000000)
    × (l.nanosecond ≡ number (take l.digit-index l.digits) * 10 ^ (9 - l.digit-index))
