use Rattle.std.proofs.Common.{◌≡◌, ◌+◌, ◌*◌, ◌^◌, ◌<◌, IsTrue, length, drop}
use Rattle.std.specs.Char.{is_ascii_digit}
use Rattle.std.specs.List.{list_all}
use Rattle.dec_value.specs.Literal.{number}
use Rattle.dec_value.proofs.digits.append_digits.Given as goal

abbrev pub invariant-digits : goal.invariant-digits
invariant-digits l = record {
  digits : IsTrue (list_all is_ascii_digit (drop l.digit-index l.digits));
  narrow : l.value < 10 ^ 38;
  so_far : l.value * 10 ^ length (drop l.digit-index l.digits) + number (drop l.digit-index l.digits) ≡ l.start * 10 ^ length l.digits + number l.digits;
}
