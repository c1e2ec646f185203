-- What a literal of a built-in type comes to by the facets of the type, of which its values can miss bounds alone.
use Rattle.std.proofs.Common.{◌≡◌, ℕ, Bool, true, false, Option, None, Some, List, Result, Ok, Err, refl, sym, ap, subst, ◌∙◌}
use Rattle.dec_value.specs.Decimal.{Decimal}
use Rattle.xs_codes.specs.declared.builtin.Builtin.{Builtin}
use Rattle.xs_codes.specs.declared.code.Code.{Code}
use Rattle.xs_codes.specs.declared.code.Code.TheVariants.{CvcMaxInclusiveValid, CvcMinInclusiveValid, XLimitItems}
use Rattle.simple_values.specs.declared.fault.ValueFault.{ValueFault}
use Rattle.simple_values.specs.declared.value.Value.{Value}
use Rattle.simple_values.specs.Reading.{literal_value}
use Rattle.simple_values.specs.Bounds.{bounds_of}
use Rattle.simple_values.specs.Same.{length_of}
use Rattle.facet_checks.specs.Check.{unless, or_else, length_code, bounds_code, digits_code, number_of, is_up_to_value, is_from_value, unmet_code, IsChecked}
use Rattle.facets.specs.declared.atomic.Accepted.{Accepted}
use Rattle.facets.specs.Atomic.{accepted, fault_code, has_too_many, IsJudged, IsReadUnless, IsValueJudged}
use Rattle.facets.specs.BuiltIn.{bound_at, facets_of}
use Rattle.facets.specs.Literal.{value_of, value_unless, IsTreatedRead}

no_length : (kind : Builtin) (measure : Option ℕ) → length_code (facets_of kind) measure ≡ None
no_length kind None = refl
no_length kind (Some n) = refl

no_digits : (kind : Builtin) (number : Option Decimal) → digits_code (facets_of kind) number ≡ None
no_digits kind None = refl
no_digits kind (Some d) = refl

or_none : (code : Option Code) → or_else code None ≡ code
or_none None = refl
or_none (Some code) = refl

pub bounds_alone : (kind : Builtin) (value : Value) → unmet_code (facets_of kind) value
    ≡ or_else (unless (is_up_to_value (bound_at kind (bounds_of kind).greatest) value) CvcMaxInclusiveValid)
    (unless (is_from_value (bound_at kind (bounds_of kind).least) value) CvcMinInclusiveValid)
bounds_alone kind value =
    let bounds : Option Code = bounds_code (facets_of kind) value in
    ap (λ (o : Option Code). or_else o (or_else None (or_else bounds (digits_code (facets_of kind) (number_of value))))) (no_length kind (length_of value))
    ∙ ap (λ (o : Option Code). or_else bounds o) (no_digits kind (number_of value))
    ∙ or_none bounds
    ∙ ap (λ (o : Option Code). or_else (unless (is_up_to_value (bound_at kind (bounds_of kind).greatest) value) CvcMaxInclusiveValid) o)
    (or_none (unless (is_from_value (bound_at kind (bounds_of kind).least) value) CvcMinInclusiveValid))

-- the value that is accepted, or the code, is what the value comes to
accepted_value : (value : Value) (text : List ℕ) (code : Option Code) → value_of (accepted value text code) ≡ value_unless value code
accepted_value value text None = refl
accepted_value value text (Some code) = refl

-- there are no patterns
checked : (kind : Builtin) (value : Value) (text : List ℕ) → IsChecked (facets_of kind) value text (unmet_code (facets_of kind) value)
checked kind value text = (true, ((λ _. tt), (λ _. refl)), refl)

module _ (kind : Builtin) (scope : List (List ℕ × ℕ)) (text : List ℕ) where
  pub read_past : has_too_many kind text ≡ true → IsTreatedRead kind scope text (Err XLimitItems)
  read_past past =
      (Err XLimitItems, subst (λ (by : Bool). IsReadUnless by (facets_of kind) text (literal_value kind scope text) (Err XLimitItems)) (sym past) refl, refl)

  pub read_value : (value : Value) (outcome : Result Value Code) → has_too_many kind text ≡ false → literal_value kind scope text ≡ Ok value
      → outcome ≡ value_unless value (unmet_code (facets_of kind) value) → IsTreatedRead kind scope text outcome
  read_value value outcome few read is =
      let code : Option Code = unmet_code (facets_of kind) value in
      let answer : Result Accepted Code = accepted value text code in
      let judged : IsJudged (facets_of kind) value text answer = (code, checked kind value text, refl) in (
        answer,
        subst (λ (by : Bool). IsReadUnless by (facets_of kind) text (literal_value kind scope text) answer) (sym few)
            (subst (λ (r : Result Value ValueFault). IsValueJudged (facets_of kind) text r answer) (sym read) judged),
        is ∙ sym (accepted_value value text code),
      )

  pub read_fault : (fault : ValueFault) (outcome : Code) → has_too_many kind text ≡ false → literal_value kind scope text ≡ Err fault → outcome ≡ fault_code fault
      → IsTreatedRead kind scope text (Err outcome)
  read_fault fault outcome few read is = (
    Err outcome,
    subst (λ (by : Bool). IsReadUnless by (facets_of kind) text (literal_value kind scope text) (Err outcome)) (sym few)
        (subst (λ (r : Result Value ValueFault). IsValueJudged (facets_of kind) text r (Err outcome)) (sym read) (ap Err is)),
    refl,
  )
