-- The facets of a step that do not fit, stand twice or are not read. What is wrong with a facet in one of these ways leaves it
-- undefined, and the first of these ways in the order of the codes is all that is said of it.
use Rattle.std.specs.Prelude.{ℕ, ◌+◌, nat_lt, Bool, true, false, ◌||◌, if◌then◌else◌, List, [], ◌∷◌, Option, None, Some, is_some}
use Rattle.xs_codes.specs.declared.code.Code.{Code}
use Rattle.xs_codes.specs.declared.code.Code.TheVariants.{CosApplicableFacets, SrcSingleFacetValue}
use Rattle.xs_components.specs.declared.simple.FacetKind.{FacetKind}
use Rattle.xs_components.specs.declared.simple.FacetKind.TheVariants as kinds
use Rattle.xs_components.specs.declared.common.Place.{Place}
use Rattle.facet_rules.specs.declared.step.Reading.{Reading}
use Rattle.facet_rules.specs.declared.step.Reading.TheVariants as readings
use Rattle.facet_rules.specs.declared.step.ReadFacet.{ReadFacet}
use Rattle.facet_rules.specs.First.{Rule, rule}
use Rattle.facet_rules.specs.Step.{first_place}

-- the index of the first facet of a kind; a step may have many patterns and values of an enumeration
abbrev pub single_place : FacetKind → List ReadFacet → Option ℕ
single_place kinds.Pattern facets = None
single_place kinds.Enumeration facets = None
single_place kind facets = first_place kind 0 facets

abbrev pub is_behind : Option ℕ → ℕ → Bool
is_behind None index = false
is_behind (Some first) index = nat_lt first index

-- src-single-facet-value (Datatypes 4.1.3): a facet other than pattern and enumeration stands twice; the later is at fault
abbrev pub is_later : FacetKind → ℕ → List ReadFacet → Bool
is_later kind index facets = is_behind (single_place kind facets) index

-- cos-applicable-facets (Datatypes 4.1.5): the facet does not fit the base
-- x-pattern, x-unsupported.block, x-limit.pattern, x-limit.value, x-facet.literal, enumeration-valid-restriction: its text is
-- refused
abbrev pub reading_code : Reading → Bool → Option Code
reading_code readings.Unfit later = Some CosApplicableFacets
reading_code (readings.Refused code) later = if later then Some SrcSingleFacetValue else Some code
reading_code _ later = if later then Some SrcSingleFacetValue else None

abbrev pub defect_of : ReadFacet → ℕ → List ReadFacet → Option Code
defect_of facet index facets = reading_code facet.reading (is_later facet.kind index facets)

abbrev pub with_defect : Option Code → Place → List Rule → List Rule
with_defect None at rules = rules
with_defect (Some code) at rules = rule true at code ∷ rules

-- the defects of these facets, counted from an index, among all those of the step
abbrev pub defect_rules : List ReadFacet → ℕ → List ReadFacet → List Rule
defect_rules all index [] = []
defect_rules all index (facet ∷ facets) = with_defect (defect_of facet index all) facet.at (defect_rules all (index + 1) facets)

-- the text of the facet is left unread, since what it would be read by is undefined
abbrev pub is_unread : Reading → Bool
is_unread readings.Unread = true
is_unread _ = false

-- none of these facets leaves the facets behind the step undefined
abbrev pub are_defined : List ReadFacet → ℕ → List ReadFacet → Bool
are_defined all index [] = true
are_defined all index (facet ∷ facets) =
    if is_some (defect_of facet index all) || is_unread facet.reading then false else are_defined all (index + 1) facets
