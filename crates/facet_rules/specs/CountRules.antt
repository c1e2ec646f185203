-- The rules of lengths, digits and white space in a step of restriction: Datatypes 4.3.1 to 4.3.3, 4.3.6, 4.3.11, 4.3.12.
use Rattle.std.specs.Prelude.{◌≡◌, ℕ, ◌==◌, nat_lt, Bool, true, false, not, ◌&&◌, ◌||◌, List, [], ◌∷◌, ◌++◌, Option, None, Some, refl}
use Rattle.xs_names.specs.declared.handling.WhiteSpace.{WhiteSpace}
use Rattle.xs_names.specs.declared.handling.WhiteSpace.TheVariants.{Preserve, Replace, Collapse}
use Rattle.xs_codes.specs.declared.code.Code.TheVariants.{StRestrictFacets, WhiteSpaceValidRestriction, LengthValidRestriction, MinLengthValidRestriction, MaxLengthValidRestriction, TotalDigitsValidRestriction, FractionDigitsValidRestriction, LengthMinLengthMaxLength, MinLengthLessThanEqualToMaxLength, FractionDigitsTotalDigits}
use Rattle.xs_components.specs.declared.simple.FacetKind.TheVariants as kinds
use Rattle.xs_components.specs.declared.common.Place.{Place}
use Rattle.facet_checks.specs.declared.list.Count.{Count}
use Rattle.facet_checks.specs.declared.list.Handling.{Handling}
use Rattle.facet_checks.specs.declared.list.FacetList.{FacetList}
use Rattle.facet_rules.specs.declared.step.ReadFacet.{ReadFacet}
use Rattle.facet_rules.specs.Step.{first_of, place_of, count_of, count_in, handling_of}
use Rattle.facet_rules.specs.First.{Rule, rule}

abbrev pub number : Option Count → Option ℕ
number None = None
number (Some count) = Some count.value

-- the number in force behind the step: the step's, where it has such a facet, else the base's; a number that is not read
-- breaks no rule
abbrev pub in_force : Option ReadFacet → Option Count → Option ℕ
in_force None base = number base
in_force (Some facet) base = number (count_in (Some facet))

-- both numbers are there, and the first is less
abbrev pub is_under : Option ℕ → Option ℕ → Bool
is_under (Some a) (Some b) = nat_lt a b
is_under _ _ = false

-- st-restrict-facets (Structures 3.14.6): the base's number is fixed, and the step's another
abbrev pub is_changed : Option Count → Option Count → Bool
is_changed (Some base) (Some own) = base.fixed && not (own.value == base.value)
is_changed _ _ = false

-- length-valid-restriction (Datatypes 4.3.1.4): another length than the base's
abbrev pub is_other : Option Count → Option Count → Bool
is_other (Some base) (Some own) = not (own.value == base.value)
is_other _ _ = false

-- minLength-valid-restriction (Datatypes 4.3.2.4): less than the base's
abbrev pub is_less_least : Option Count → Option Count → Bool
is_less_least base own = is_under (number own) (number base)

-- maxLength-valid-restriction (Datatypes 4.3.3.4): more than the base's
abbrev pub is_more_most : Option Count → Option Count → Bool
is_more_most base own = is_under (number base) (number own)

-- totalDigits-valid-restriction (Datatypes 4.3.11.4): more than the base's
abbrev pub is_more_digits : Option Count → Option Count → Bool
is_more_digits base own = is_under (number base) (number own)

-- fractionDigits-valid-restriction (Datatypes 4.3.12.4): more than the base's
abbrev pub is_more_fraction : Option Count → Option Count → Bool
is_more_fraction base own = is_under (number base) (number own)

-- length-minLength-maxLength (Datatypes 4.3.1.4): the length is less than the minLength, or greater than the maxLength
abbrev pub is_outside : Option ℕ → Option ℕ → Option ℕ → Bool
is_outside exact least most = is_under exact least || is_under most exact

-- minLength-less-than-equal-to-maxLength (Datatypes 4.3.2.4): the minLength is greater than the maxLength
abbrev pub is_crossed : Option ℕ → Option ℕ → Bool
is_crossed least most = is_under most least

-- fractionDigits-totalDigits (Datatypes 4.3.12.4): more fraction digits than digits
abbrev pub is_too_fine : Option ℕ → Option ℕ → Bool
is_too_fine fraction total = is_under total fraction

-- the rules of a facet that stands in the step and fits
abbrev pub placed : Option Place → (Place → List Rule) → List Rule
placed None rules = []
placed (Some at) rules = rules at

abbrev pub is_same_handling : WhiteSpace → WhiteSpace → Bool
is_same_handling Preserve Preserve = true
is_same_handling Replace Replace = true
is_same_handling Collapse Collapse = true
is_same_handling _ _ = false

-- st-restrict-facets (Structures 3.14.6): the base's way is fixed, and the step's another
abbrev pub is_other_handling : Option Handling → Option Handling → Bool
is_other_handling (Some base) (Some own) = base.fixed && not (is_same_handling base.value own.value)
is_other_handling _ _ = false

-- collapse leaves less than replace, and replace less than preserve
abbrev pub is_weaker_way : WhiteSpace → WhiteSpace → Bool
is_weaker_way Preserve Replace = true
is_weaker_way Preserve Collapse = true
is_weaker_way Replace Collapse = true
is_weaker_way _ _ = false

-- whiteSpace-valid-restriction (Datatypes 4.3.6.4): white space is treated by a weaker way than the base's
abbrev pub is_weaker : Option Handling → Option Handling → Bool
is_weaker (Some base) (Some own) = is_weaker_way own.value base.value
is_weaker _ _ = false

-- the number in force behind the step of a kind of facets
abbrev pub length_behind : FacetList → List ReadFacet → Option ℕ
length_behind base facets = in_force (first_of kinds.Length facets) base.length

abbrev pub min_length_behind : FacetList → List ReadFacet → Option ℕ
min_length_behind base facets = in_force (first_of kinds.MinLength facets) base.min_length

abbrev pub max_length_behind : FacetList → List ReadFacet → Option ℕ
max_length_behind base facets = in_force (first_of kinds.MaxLength facets) base.max_length

abbrev pub total_digits_behind : FacetList → List ReadFacet → Option ℕ
total_digits_behind base facets = in_force (first_of kinds.TotalDigits facets) base.total_digits

abbrev pub fraction_digits_behind : FacetList → List ReadFacet → Option ℕ
fraction_digits_behind base facets = in_force (first_of kinds.FractionDigits facets) base.fraction_digits

-- Each facet of a step has the rules that it takes part in, with the step's others or with the base's.

abbrev pub white_space_rules : FacetList → List ReadFacet → List Rule
white_space_rules base facets = placed (place_of kinds.WhiteSpace facets) (λ at.
    rule (is_other_handling base.white_space (handling_of facets)) at StRestrictFacets ∷
    rule (is_weaker base.white_space (handling_of facets)) at WhiteSpaceValidRestriction ∷ [])

abbrev pub length_rules : FacetList → List ReadFacet → List Rule
length_rules base facets = placed (place_of kinds.Length facets) (λ at.
    rule (is_changed base.length (count_of kinds.Length facets)) at StRestrictFacets ∷
    rule (is_other base.length (count_of kinds.Length facets)) at LengthValidRestriction ∷
    rule (is_outside (number (count_of kinds.Length facets)) (min_length_behind base facets) (max_length_behind base facets)) at LengthMinLengthMaxLength ∷ [])

abbrev pub min_length_rules : FacetList → List ReadFacet → List Rule
min_length_rules base facets = placed (place_of kinds.MinLength facets) (λ at.
    rule (is_changed base.min_length (count_of kinds.MinLength facets)) at StRestrictFacets ∷
    rule (is_less_least base.min_length (count_of kinds.MinLength facets)) at MinLengthValidRestriction ∷
    rule (is_outside (length_behind base facets) (number (count_of kinds.MinLength facets)) None) at LengthMinLengthMaxLength ∷
    rule (is_crossed (number (count_of kinds.MinLength facets)) (max_length_behind base facets)) at MinLengthLessThanEqualToMaxLength ∷ [])

abbrev pub max_length_rules : FacetList → List ReadFacet → List Rule
max_length_rules base facets = placed (place_of kinds.MaxLength facets) (λ at.
    rule (is_changed base.max_length (count_of kinds.MaxLength facets)) at StRestrictFacets ∷
    rule (is_more_most base.max_length (count_of kinds.MaxLength facets)) at MaxLengthValidRestriction ∷
    rule (is_outside (length_behind base facets) None (number (count_of kinds.MaxLength facets))) at LengthMinLengthMaxLength ∷
    rule (is_crossed (min_length_behind base facets) (number (count_of kinds.MaxLength facets))) at MinLengthLessThanEqualToMaxLength ∷ [])

abbrev pub total_digits_rules : FacetList → List ReadFacet → List Rule
total_digits_rules base facets = placed (place_of kinds.TotalDigits facets) (λ at.
    rule (is_changed base.total_digits (count_of kinds.TotalDigits facets)) at StRestrictFacets ∷
    rule (is_more_digits base.total_digits (count_of kinds.TotalDigits facets)) at TotalDigitsValidRestriction ∷
    rule (is_too_fine (fraction_digits_behind base facets) (number (count_of kinds.TotalDigits facets))) at FractionDigitsTotalDigits ∷ [])

abbrev pub fraction_digits_rules : FacetList → List ReadFacet → List Rule
fraction_digits_rules base facets = placed (place_of kinds.FractionDigits facets) (λ at.
    rule (is_changed base.fraction_digits (count_of kinds.FractionDigits facets)) at StRestrictFacets ∷
    rule (is_more_fraction base.fraction_digits (count_of kinds.FractionDigits facets)) at FractionDigitsValidRestriction ∷
    rule (is_too_fine (number (count_of kinds.FractionDigits facets)) (total_digits_behind base facets)) at FractionDigitsTotalDigits ∷ [])

-- the rules of lengths, digits and white space
abbrev pub count_rules : FacetList → List ReadFacet → List Rule
count_rules base facets =
    white_space_rules base facets ++ (length_rules base facets ++ (min_length_rules base facets
    ++ (max_length_rules base facets ++ (total_digits_rules base facets ++ fraction_digits_rules base facets))))

-- for example
pub example-fixed : is_changed (Some (record { value = 2; fixed = true })) (Some (record { value = 3; fixed = false })) ≡ true
example-fixed = refl

pub example-not-fixed : is_changed (Some (record { value = 2; fixed = false })) (Some (record { value = 3; fixed = false })) ≡ false
example-not-fixed = refl

pub example-weaker : is_weaker_way Replace Collapse ≡ true
example-weaker = refl
