-- Decimal digits that are not parsed.
use Rattle.std.proofs.Common.{◌≡◌, ℕ, ◌<◌, ◌^◌, List, Bool, true, false, length, Result, Err, None, refl, arith, rules}
use Rattle.std.specs.List.{list_all}
use Rattle.std.specs.Char.{is_ascii_digit}
use Rattle.std.specs.Str.Parse.{digits_value, ParsesUnsigned}
use Rattle.std.proofs.lemmas.Bool.Decides.{nat_tests}
use Rattle.std.proofs.lemmas.Str.Parse.{IsNumeralModel, numerals_by_value, parse_digits}
use Rattle.std.proofs.lemmas.Result.{OkIff-at_err}
use Rattle.command_words.specs.Numbers.{is_number, number}

own : IsNumeralModel (λ ds. list_all is_ascii_digit ds ≡ true) (digits_value 10)
own = numerals_by_value _ (search rules)

unless : (text : List ℕ) (t : Bool) → is_number text ≡ t → (is_number text ≡ true → ⊥) → number text ≡ None
unless text true e h = absurd (h e)
unless text false e h = rw e refl

-- digits that are not parsed are none, or write a number that is too large
pub not_parsed : {E : Type 0} (text : List ℕ) (r : Result ℕ E) (x : E) → ParsesUnsigned 64 10 text r → list_all is_ascii_digit text ≡ true → r ≡ Err x → number text ≡ None
not_parsed text r x h digits e =
    let no = OkIff-at_err r ((0 < length text) × (digits_value 10 text < 2 ^ 64)) (digits_value 10 text) x (parse_digits own 64 text r h digits) e in
    unless text (is_number text) refl (λ is. no (grind (arith, nat_tests, is), grind (arith, nat_tests, is)))
