-- The rules of bounds in a step of restriction: Datatypes 4.3.7 to 4.3.10. An order that is not decided breaks none.
use Rattle.std.specs.Prelude.{Bool, false, not, ◌&&◌, ◌||◌, List, [], ◌∷◌, ◌++◌, Option, None, Some, is_some}
use Rattle.xs_codes.specs.declared.code.Code.TheVariants.{StRestrictFacets, MaxInclusiveMaxExclusive, MinInclusiveMinExclusive, MinInclusiveLessThanEqualToMaxInclusive, MinExclusiveLessThanEqualToMaxExclusive, MinExclusiveLessThanMaxInclusive, MinInclusiveLessThanMaxExclusive, MaxInclusiveValidRestriction, MaxExclusiveValidRestriction, MinInclusiveValidRestriction, MinExclusiveValidRestriction}
use Rattle.xs_components.specs.declared.simple.FacetKind.TheVariants as kinds
use Rattle.simple_values.specs.declared.value.Value.{Value}
use Rattle.simple_values.specs.Same.{same}
use Rattle.facet_checks.specs.declared.list.Bound.{Bound}
use Rattle.facet_checks.specs.declared.list.FacetList.{FacetList}
use Rattle.facet_checks.specs.Order.{is_below, is_at_most}
use Rattle.facet_rules.specs.declared.step.ReadFacet.{ReadFacet}
use Rattle.facet_rules.specs.Step.{place_of, limit_of}
use Rattle.facet_rules.specs.First.{Rule, rule}
use Rattle.facet_rules.specs.CountRules.{placed}

-- st-restrict-facets (Structures 3.14.6): the base's bound of the kind is fixed, and the value differs
abbrev pub is_moved : Option Bound → Option Value → Bool
is_moved (Some base) (Some own) = base.fixed && not (same own base.value)
is_moved _ _ = false

-- both are there and read, and the first is less
abbrev pub are_below : Option Value → Option Value → Bool
are_below (Some a) (Some b) = is_below a b
are_below _ _ = false

-- .. or the same
abbrev pub are_at_most : Option Value → Option Value → Bool
are_at_most (Some a) (Some b) = is_at_most a b
are_at_most _ _ = false

abbrev pub bound_value : Option Bound → Option Value
bound_value None = None
bound_value (Some bound) = Some bound.value

-- maxInclusive-valid-restriction (Datatypes 4.3.7.4): the value is greater than the base's maxInclusive, at least its
-- maxExclusive, less than its minInclusive, or at most its minExclusive
abbrev pub is_no_max_inclusive : FacetList → Option Value → Bool
is_no_max_inclusive base own =
    are_below (bound_value base.max_inclusive) own || (are_at_most (bound_value base.max_exclusive) own
    || (are_below own (bound_value base.min_inclusive) || are_at_most own (bound_value base.min_exclusive)))

-- maxExclusive-valid-restriction (Datatypes 4.3.8.4): the value is greater than the base's maxExclusive or maxInclusive, or at
-- most its minInclusive or minExclusive
abbrev pub is_no_max_exclusive : FacetList → Option Value → Bool
is_no_max_exclusive base own =
    are_below (bound_value base.max_exclusive) own || (are_below (bound_value base.max_inclusive) own
    || (are_at_most own (bound_value base.min_inclusive) || are_at_most own (bound_value base.min_exclusive)))

-- minInclusive-valid-restriction (Datatypes 4.3.10.4): the value is less than the base's minInclusive, greater than its
-- maxInclusive, at most its minExclusive, or at least its maxExclusive
abbrev pub is_no_min_inclusive : FacetList → Option Value → Bool
is_no_min_inclusive base own =
    are_below own (bound_value base.min_inclusive) || (are_below (bound_value base.max_inclusive) own
    || (are_at_most own (bound_value base.min_exclusive) || are_at_most (bound_value base.max_exclusive) own))

-- minExclusive-valid-restriction (Datatypes 4.3.9.4): the value is less than the base's minExclusive or minInclusive, greater
-- than its maxInclusive, or at least its maxExclusive
abbrev pub is_no_min_exclusive : FacetList → Option Value → Bool
is_no_min_exclusive base own =
    are_below own (bound_value base.min_exclusive) || (are_below (bound_value base.max_inclusive) own
    || (are_below own (bound_value base.min_inclusive) || are_at_most (bound_value base.max_exclusive) own))

-- maxInclusive-maxExclusive (Datatypes 4.3.8.4): both stand in the step
abbrev pub has_both_upper : List ReadFacet → Bool
has_both_upper facets = is_some (place_of kinds.MaxInclusive facets) && is_some (place_of kinds.MaxExclusive facets)

-- minInclusive-minExclusive (Datatypes 4.3.9.4): both stand in the step
abbrev pub has_both_lower : List ReadFacet → Bool
has_both_lower facets = is_some (place_of kinds.MinInclusive facets) && is_some (place_of kinds.MinExclusive facets)

-- minInclusive-less-than-equal-to-maxInclusive (Datatypes 4.3.7.4): the step's maxInclusive is less than its minInclusive
abbrev pub are_inclusive_crossed : List ReadFacet → Bool
are_inclusive_crossed facets = are_below (limit_of kinds.MaxInclusive facets) (limit_of kinds.MinInclusive facets)

-- minExclusive-less-than-equal-to-maxExclusive (Datatypes 4.3.8.4): the step's maxExclusive is less than its minExclusive
abbrev pub are_exclusive_crossed : List ReadFacet → Bool
are_exclusive_crossed facets = are_below (limit_of kinds.MaxExclusive facets) (limit_of kinds.MinExclusive facets)

-- minExclusive-less-than-maxInclusive (Datatypes 4.3.9.4): the step's maxInclusive is at most its minExclusive
abbrev pub is_inclusive_below : List ReadFacet → Bool
is_inclusive_below facets = are_at_most (limit_of kinds.MaxInclusive facets) (limit_of kinds.MinExclusive facets)

-- minInclusive-less-than-maxExclusive (Datatypes 4.3.10.4): the step's maxExclusive is at most its minInclusive
abbrev pub is_exclusive_below : List ReadFacet → Bool
is_exclusive_below facets = are_at_most (limit_of kinds.MaxExclusive facets) (limit_of kinds.MinInclusive facets)

-- Each bound of a step has the rules that it takes part in, with the step's others or with the base's.

abbrev pub max_inclusive_rules : FacetList → List ReadFacet → List Rule
max_inclusive_rules base facets = placed (place_of kinds.MaxInclusive facets) (λ at.
    rule (is_moved base.max_inclusive (limit_of kinds.MaxInclusive facets)) at StRestrictFacets ∷
    rule (has_both_upper facets) at MaxInclusiveMaxExclusive ∷
    rule (are_inclusive_crossed facets) at MinInclusiveLessThanEqualToMaxInclusive ∷
    rule (is_inclusive_below facets) at MinExclusiveLessThanMaxInclusive ∷
    rule (is_no_max_inclusive base (limit_of kinds.MaxInclusive facets)) at MaxInclusiveValidRestriction ∷ [])

abbrev pub max_exclusive_rules : FacetList → List ReadFacet → List Rule
max_exclusive_rules base facets = placed (place_of kinds.MaxExclusive facets) (λ at.
    rule (is_moved base.max_exclusive (limit_of kinds.MaxExclusive facets)) at StRestrictFacets ∷
    rule (has_both_upper facets) at MaxInclusiveMaxExclusive ∷
    rule (are_exclusive_crossed facets) at MinExclusiveLessThanEqualToMaxExclusive ∷
    rule (is_exclusive_below facets) at MinInclusiveLessThanMaxExclusive ∷
    rule (is_no_max_exclusive base (limit_of kinds.MaxExclusive facets)) at MaxExclusiveValidRestriction ∷ [])

abbrev pub min_inclusive_rules : FacetList → List ReadFacet → List Rule
min_inclusive_rules base facets = placed (place_of kinds.MinInclusive facets) (λ at.
    rule (is_moved base.min_inclusive (limit_of kinds.MinInclusive facets)) at StRestrictFacets ∷
    rule (has_both_lower facets) at MinInclusiveMinExclusive ∷
    rule (are_inclusive_crossed facets) at MinInclusiveLessThanEqualToMaxInclusive ∷
    rule (is_exclusive_below facets) at MinInclusiveLessThanMaxExclusive ∷
    rule (is_no_min_inclusive base (limit_of kinds.MinInclusive facets)) at MinInclusiveValidRestriction ∷ [])

abbrev pub min_exclusive_rules : FacetList → List ReadFacet → List Rule
min_exclusive_rules base facets = placed (place_of kinds.MinExclusive facets) (λ at.
    rule (is_moved base.min_exclusive (limit_of kinds.MinExclusive facets)) at StRestrictFacets ∷
    rule (has_both_lower facets) at MinInclusiveMinExclusive ∷
    rule (are_exclusive_crossed facets) at MinExclusiveLessThanEqualToMaxExclusive ∷
    rule (is_inclusive_below facets) at MinExclusiveLessThanMaxInclusive ∷
    rule (is_no_min_exclusive base (limit_of kinds.MinExclusive facets)) at MinExclusiveValidRestriction ∷ [])

abbrev pub bound_rules : FacetList → List ReadFacet → List Rule
bound_rules base facets =
    max_inclusive_rules base facets ++ (max_exclusive_rules base facets
    ++ (min_inclusive_rules base facets ++ min_exclusive_rules base facets))
