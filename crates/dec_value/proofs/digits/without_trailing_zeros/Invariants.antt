use Rattle.std.proofs.Common.{◌≡◌, ℕ, IsTrue, List, ◌++◌, length}
use Rattle.std.specs.Char.{is_ascii_digit}
use Rattle.std.specs.List.{list_all}
use Rattle.dec_value.specs.Literal.{number, lowest}
use Rattle.dec_value.proofs.digits.without_trailing_zeros.Given as goal

abbrev pub invariant-zeros : goal.invariant-zeros
invariant-zeros l = record {
  digits : IsTrue (list_all is_ascii_digit l.rest);
  same : (whole : List ℕ) → lowest (number (whole ++ l.fraction)) (length l.fraction) ≡ lowest (number (whole ++ l.rest)) (length l.rest);
}

abbrev pub decreases-zeros : goal.decreases-zeros
decreases-zeros l = length l.rest
