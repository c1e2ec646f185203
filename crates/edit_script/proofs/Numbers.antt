-- Numbers in decimal digits.
use Rattle.std.proofs.Common.{◌≡◌, ℕ, ◌<◌, ◌^◌, List, Bool, true, false, length, Result, Err, refl, arith, rules}
use Rattle.std.specs.List.{list_all}
use Rattle.std.specs.Char.{is_ascii_digit}
use Rattle.std.specs.Str.Parse.{digits_value, ParsesUnsigned}
use Rattle.std.proofs.lemmas.Bool.Decides.{nat_tests}
use Rattle.std.proofs.lemmas.Str.Parse.{IsNumeralModel, numerals_by_value, parse_digits}
use Rattle.std.proofs.lemmas.Result.{OkIff-at_err}
use Rattle.edit_script.specs.Fields.{is_number_to, number_to, number, revision}
use Rattle.edit_script.specs.declared.command.ScriptFault.TheVariants.{BadNumber}

own : IsNumeralModel (λ ds. list_all is_ascii_digit ds ≡ true) (digits_value 10)
own = numerals_by_value _ (search rules)

unless : (most : ℕ) (field : List ℕ) (t : Bool) → is_number_to most field ≡ t → (is_number_to most field ≡ true → ⊥) → number_to most field ≡ Err BadNumber
unless most field true e h = absurd (h e)
unless most field false e h = rw e refl

-- digits that are not parsed are none, or write a number that is too large
pub not_parsed : {E : Type 0} (field : List ℕ) (r : Result ℕ E) (x : E) → ParsesUnsigned 32 10 field r → list_all is_ascii_digit field ≡ true → r ≡ Err x → number field ≡ Err BadNumber
not_parsed field r x h digits e =
    let no = OkIff-at_err r ((0 < length field) × (digits_value 10 field < 2 ^ 32)) (digits_value 10 field) x (parse_digits own 32 field r h digits) e in
    unless 4294967295 field (is_number_to 4294967295 field) refl (λ is. no (grind (arith, nat_tests, is), grind (arith, nat_tests, is)))

pub not_revision : {E : Type 0} (field : List ℕ) (r : Result ℕ E) (x : E) → ParsesUnsigned 64 10 field r → list_all is_ascii_digit field ≡ true → r ≡ Err x → revision field ≡ Err BadNumber
not_revision field r x h digits e =
    let no = OkIff-at_err r ((0 < length field) × (digits_value 10 field < 2 ^ 64)) (digits_value 10 field) x (parse_digits own 64 field r h digits) e in
    unless 18446744073709551615 field (is_number_to 18446744073709551615 field) refl (λ is. no (grind (arith, nat_tests, is), grind (arith, nat_tests, is)))
