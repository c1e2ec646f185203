use Rattle.std.proofs.Common.{◌≡◌, ◌≤◌, min, IsTrue, drop}
use Rattle.std.specs.List.{list_all}
use Rattle.pattern_syntax.specs.Characters.{is_ascii_digit}
use Rattle.std.specs.Str.Parse.{digits_value_after}
use Rattle.pattern_syntax.specs.Grammar.{number}
use Rattle.pattern_syntax.proofs.digits.bound.Given as goal

abbrev pub invariant-digits : goal.invariant-digits
invariant-digits l = record {
  digits : IsTrue (list_all is_ascii_digit (drop l.digit-index l.digits));
  small : l.number ≤ 4097;
  so_far : min (digits_value_after 10 l.number (drop l.digit-index l.digits)) 4097 ≡ min (number l.digits) 4097;
}
