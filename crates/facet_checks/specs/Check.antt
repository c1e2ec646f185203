-- Whether a value meets the facets in force for its type: Datatypes 4.1.4 and 4.3.
use Rattle.std.specs.Prelude.{◌≡◌, ◌↔◌, ℕ, ◌==◌, nat_le, Bool, true, false, ◌||◌, IsTrue, if◌then◌else◌, List, [], ◌∷◌, Option, Some, None, refl}
use Rattle.dec_value.specs.Decimal.{Decimal, total_digits_of}
use Rattle.xs_codes.specs.declared.code.Code.{Code}
use Rattle.xs_codes.specs.declared.code.Code.TheVariants.{CvcPatternValid, CvcLengthValid, CvcMinLengthValid, CvcMaxLengthValid, CvcEnumerationValid, CvcMaxInclusiveValid, CvcMaxExclusiveValid, CvcMinInclusiveValid, CvcMinExclusiveValid, CvcTotalDigitsValid, CvcFractionDigitsValid}
use Rattle.simple_values.specs.declared.atom.Atom.{Atom}
use Rattle.simple_values.specs.declared.atom.Atom.TheVariants as atoms
use Rattle.simple_values.specs.declared.value.Value.{Value}
use Rattle.simple_values.specs.declared.value.Value.TheVariants as values
use Rattle.simple_values.specs.Same.{same, length_of}
use Rattle.facet_checks.specs.declared.list.Count.{Count}
use Rattle.facet_checks.specs.declared.list.Bound.{Bound}
use Rattle.facet_checks.specs.declared.list.FacetList.{FacetList}
use Rattle.facet_checks.specs.List.{no_facets}
use Rattle.facet_checks.specs.Order.{is_below, is_at_most}
use Rattle.facet_checks.specs.Patterns.{MatchesEach}

abbrev pub unless : Bool → Code → Option Code
unless met code = if met then None else Some code

-- the first code, if there is one, else the second
abbrev pub or_else : Option Code → Option Code → Option Code
or_else (Some code) other = Some code
or_else None other = other

-- cvc-length-valid (Datatypes 4.3.1.3): the length, in characters, octets or items, is the one of the facet
abbrev pub is_exactly : Option Count → ℕ → Bool
is_exactly None n = true
is_exactly (Some limit) n = n == limit.value

-- cvc-minLength-valid (Datatypes 4.3.2.3): the length is at least the one of the facet
abbrev pub is_from : Option Count → ℕ → Bool
is_from None n = true
is_from (Some limit) n = nat_le limit.value n

-- cvc-maxLength-valid (Datatypes 4.3.3.3): the length is at most the one of the facet
abbrev pub is_up_to : Option Count → ℕ → Bool
is_up_to None n = true
is_up_to (Some limit) n = nat_le n limit.value

-- 4.3.1 to 4.3.3: a value without a length meets every facet of length
abbrev pub length_code : FacetList → Option ℕ → Option Code
length_code facets None = None
length_code facets (Some n) =
    or_else (unless (is_exactly facets.length n) CvcLengthValid)
    (or_else (unless (is_from facets.min_length n) CvcMinLengthValid)
    (unless (is_up_to facets.max_length n) CvcMaxLengthValid))

abbrev pub is_among : List Value → Value → Bool
is_among [] value = false
is_among (other ∷ others) value = same other value || is_among others value

-- cvc-enumeration-valid (Datatypes 4.3.5.4): the value is one of those listed, if any are
abbrev pub is_listed : Option (List Value) → Value → Bool
is_listed None value = true
is_listed (Some listed) value = is_among listed value

-- A comparison that is not decided is not met, by any of the four bounds.

-- cvc-maxInclusive-valid (Datatypes 4.3.7.3): the value is at most the bound
abbrev pub is_up_to_value : Option Bound → Value → Bool
is_up_to_value None value = true
is_up_to_value (Some bound) value = is_at_most value bound.value

-- cvc-maxExclusive-valid (Datatypes 4.3.8.3): the value is less than the bound
abbrev pub is_before_value : Option Bound → Value → Bool
is_before_value None value = true
is_before_value (Some bound) value = is_below value bound.value

-- cvc-minInclusive-valid (Datatypes 4.3.10.3): the value is at least the bound
abbrev pub is_from_value : Option Bound → Value → Bool
is_from_value None value = true
is_from_value (Some bound) value = is_at_most bound.value value

-- cvc-minExclusive-valid (Datatypes 4.3.9.3): the value is greater than the bound
abbrev pub is_past_value : Option Bound → Value → Bool
is_past_value None value = true
is_past_value (Some bound) value = is_below bound.value value

abbrev pub bounds_code : FacetList → Value → Option Code
bounds_code facets value =
    or_else (unless (is_up_to_value facets.max_inclusive value) CvcMaxInclusiveValid)
    (or_else (unless (is_before_value facets.max_exclusive value) CvcMaxExclusiveValid)
    (or_else (unless (is_from_value facets.min_inclusive value) CvcMinInclusiveValid)
    (unless (is_past_value facets.min_exclusive value) CvcMinExclusiveValid)))

abbrev pub atom_number : Atom → Option Decimal
atom_number (atoms.Number d) = Some d
atom_number _ = None

abbrev pub number_of : Value → Option Decimal
number_of (values.Atom _ atom) = atom_number atom
number_of (values.List items) = None

-- cvc-totalDigits-valid (Datatypes 4.3.11.3): the number has at most so many digits
abbrev pub is_within_digits : Option Count → Decimal → Bool
is_within_digits limit d = is_up_to limit (total_digits_of d)

-- cvc-fractionDigits-valid (Datatypes 4.3.12.3): the number has at most so many digits behind the point
abbrev pub is_within_fraction : Option Count → Decimal → Bool
is_within_fraction limit d = is_up_to limit d.scale

abbrev pub digits_code : FacetList → Option Decimal → Option Code
digits_code facets None = None
digits_code facets (Some d) =
    or_else (unless (is_within_digits facets.total_digits d) CvcTotalDigitsValid)
    (unless (is_within_fraction facets.fraction_digits d) CvcFractionDigitsValid)

abbrev pub values_code : Option (List Value) → Value → Option Code
values_code listed value = unless (is_listed listed value) CvcEnumerationValid

-- the facets behind the patterns, in the order in which they are tried
abbrev pub unmet_code : FacetList → Value → Option Code
unmet_code facets value =
    or_else (length_code facets (length_of value))
    (or_else (values_code facets.enumeration value)
    (or_else (bounds_code facets value)
    (digits_code facets (number_of value))))

abbrev pub check_code : Bool → FacetList → Value → Option Code
check_code matching facets value = if matching then unmet_code facets value else Some CvcPatternValid

-- cvc-pattern-valid (Datatypes 4.3.4.4), and 4.1.4: a value is judged by the patterns of all steps, matched against the text that it was read from, and then by the
-- other facets; the first that is not met gives the code
abbrev pub IsChecked : FacetList → Value → List ℕ → Option Code → Type 0
IsChecked facets value text code =
    (matching : Bool) × (IsTrue matching ↔ MatchesEach facets.patterns text) × (code ≡ check_code matching facets value)

abbrev pub two_at_most : FacetList
two_at_most = record no_facets { max_length = Some (record { value = 2; fixed = false }) }

-- for example
pub example-longer : length_code two_at_most (Some 3) ≡ Some CvcMaxLengthValid
example-longer = refl

pub example-without-length : length_code two_at_most None ≡ None
example-without-length = refl
