-- The code of a facet that is not met is that of no limit.
use Rattle.std.proofs.Common.{◌≡◌, ℕ, Bool, true, false, Option, None, Some, refl}
use Rattle.dec_value.specs.Decimal.{Decimal}
use Rattle.xs_codes.specs.declared.code.Code.{Code}
use Rattle.xs_codes.specs.declared.code.Code.TheVariants.{CvcLengthValid, CvcMinLengthValid, CvcMaxLengthValid, CvcEnumerationValid, CvcMaxInclusiveValid, CvcMaxExclusiveValid, CvcMinInclusiveValid, CvcMinExclusiveValid, CvcTotalDigitsValid, CvcFractionDigitsValid}
use Rattle.dec_value.specs.Decimal.{total_digits_of}
use Rattle.simple_values.specs.declared.value.Value.{Value}
use Rattle.simple_values.specs.Same.{length_of}
use Rattle.facet_checks.specs.declared.list.FacetList.{FacetList}
use Rattle.facet_checks.specs.Check.{unless, or_else, is_exactly, is_from, is_up_to, length_code, is_listed, values_code, is_up_to_value, is_before_value, is_from_value, is_past_value, bounds_code, number_of, digits_code, unmet_code, check_code}
use Rattle.facets.specs.Trying.{is_limit}

abbrev pub IsNoLimit : Option Code → Type 0
IsNoLimit None = Unit {0}
IsNoLimit (Some code) = is_limit code ≡ false

unless-no_limit : (met : Bool) (code : Code) → is_limit code ≡ false → IsNoLimit (unless met code)
unless-no_limit true code h = tt
unless-no_limit false code h = h

or-no_limit : (a b : Option Code) → IsNoLimit a → IsNoLimit b → IsNoLimit (or_else a b)
or-no_limit None b ha hb = hb
or-no_limit (Some code) b ha hb = ha

length-no_limit : (facets : FacetList) (measure : Option ℕ) → IsNoLimit (length_code facets measure)
length-no_limit facets None = tt
length-no_limit facets (Some n) =
    or-no_limit (unless (is_exactly facets.length n) CvcLengthValid) _ (unless-no_limit (is_exactly facets.length n) CvcLengthValid refl)
    (or-no_limit (unless (is_from facets.min_length n) CvcMinLengthValid) _ (unless-no_limit (is_from facets.min_length n) CvcMinLengthValid refl)
    (unless-no_limit (is_up_to facets.max_length n) CvcMaxLengthValid refl))

bounds-no_limit : (facets : FacetList) (value : Value) → IsNoLimit (bounds_code facets value)
bounds-no_limit facets value =
    or-no_limit (unless (is_up_to_value facets.max_inclusive value) CvcMaxInclusiveValid) _ (unless-no_limit (is_up_to_value facets.max_inclusive value) CvcMaxInclusiveValid refl)
    (or-no_limit (unless (is_before_value facets.max_exclusive value) CvcMaxExclusiveValid) _ (unless-no_limit (is_before_value facets.max_exclusive value) CvcMaxExclusiveValid refl)
    (or-no_limit (unless (is_from_value facets.min_inclusive value) CvcMinInclusiveValid) _ (unless-no_limit (is_from_value facets.min_inclusive value) CvcMinInclusiveValid refl)
    (unless-no_limit (is_past_value facets.min_exclusive value) CvcMinExclusiveValid refl)))

digits-no_limit : (facets : FacetList) (number : Option Decimal) → IsNoLimit (digits_code facets number)
digits-no_limit facets None = tt
digits-no_limit facets (Some d) =
    or-no_limit (unless (is_up_to facets.total_digits (total_digits_of d)) CvcTotalDigitsValid) _ (unless-no_limit (is_up_to facets.total_digits (total_digits_of d)) CvcTotalDigitsValid refl)
    (unless-no_limit (is_up_to facets.fraction_digits d.scale) CvcFractionDigitsValid refl)

unmet-no_limit : (facets : FacetList) (value : Value) → IsNoLimit (unmet_code facets value)
unmet-no_limit facets value =
    or-no_limit (length_code facets (length_of value)) _ (length-no_limit facets (length_of value))
    (or-no_limit (values_code facets.enumeration value) _ (unless-no_limit (is_listed facets.enumeration value) CvcEnumerationValid refl)
    (or-no_limit (bounds_code facets value) _ (bounds-no_limit facets value) (digits-no_limit facets (number_of value))))

pub checked-no_limit : (matching : Bool) (facets : FacetList) (value : Value) → IsNoLimit (check_code matching facets value)
checked-no_limit true facets value = unmet-no_limit facets value
checked-no_limit false facets value = refl
