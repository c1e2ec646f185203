-- The facets of one step of restriction, their texts read: Datatypes 4.3, Structures 3.14.2.
use Rattle.std.specs.Prelude.{ℕ, ◌+◌, Bool, true, false, if◌then◌else◌, List, [], ◌∷◌, Option, None, Some}
use Rattle.xs_components.specs.declared.simple.FacetKind.{FacetKind}
use Rattle.xs_components.specs.declared.simple.FacetKind.TheVariants as kinds
use Rattle.xs_components.specs.declared.common.Place.{Place}
use Rattle.simple_values.specs.declared.value.Value.{Value}
use Rattle.facet_checks.specs.declared.list.Count.{Count}
use Rattle.facet_checks.specs.declared.list.Handling.{Handling}
use Rattle.facet_rules.specs.declared.step.Reading.{Reading}
use Rattle.facet_rules.specs.declared.step.Reading.TheVariants as readings
use Rattle.facet_rules.specs.declared.step.ReadFacet.{ReadFacet}

abbrev pub same_kind : FacetKind → FacetKind → Bool
same_kind kinds.Length kinds.Length = true
same_kind kinds.MinLength kinds.MinLength = true
same_kind kinds.MaxLength kinds.MaxLength = true
same_kind kinds.Pattern kinds.Pattern = true
same_kind kinds.Enumeration kinds.Enumeration = true
same_kind kinds.WhiteSpace kinds.WhiteSpace = true
same_kind kinds.MaxInclusive kinds.MaxInclusive = true
same_kind kinds.MaxExclusive kinds.MaxExclusive = true
same_kind kinds.MinExclusive kinds.MinExclusive = true
same_kind kinds.MinInclusive kinds.MinInclusive = true
same_kind kinds.TotalDigits kinds.TotalDigits = true
same_kind kinds.FractionDigits kinds.FractionDigits = true
same_kind _ _ = false

-- the index of the first facet of a kind, where the facets are counted from n
abbrev pub first_place : FacetKind → ℕ → List ReadFacet → Option ℕ
first_place kind n [] = None
first_place kind n (facet ∷ facets) = if same_kind facet.kind kind then Some n else first_place kind (n + 1) facets

-- the first facet of a kind; later ones of the kind are left out of account, unless many of it may stand in a step
abbrev pub first_of : FacetKind → List ReadFacet → Option ReadFacet
first_of kind [] = None
first_of kind (facet ∷ facets) = if same_kind facet.kind kind then Some facet else first_of kind facets

-- where a facet stands that fits
abbrev pub place_at : Place → Reading → Option Place
place_at at readings.Unfit = None
place_at at _ = Some at

abbrev pub place_in : Option ReadFacet → Option Place
place_in None = None
place_in (Some facet) = place_at facet.at facet.reading

abbrev pub place_of : FacetKind → List ReadFacet → Option Place
place_of kind facets = place_in (first_of kind facets)

-- the number of a length or of digits that is read
abbrev pub count_at : Bool → Reading → Option Count
count_at fixed (readings.Count n) = Some (record { value = n; fixed = fixed })
count_at fixed _ = None

abbrev pub count_in : Option ReadFacet → Option Count
count_in None = None
count_in (Some facet) = count_at facet.fixed facet.reading

abbrev pub count_of : FacetKind → List ReadFacet → Option Count
count_of kind facets = count_in (first_of kind facets)

-- the value of a bound that is read
abbrev pub limit_at : Reading → Option Value
limit_at (readings.Limit value) = Some value
limit_at _ = None

abbrev pub limit_in : Option ReadFacet → Option Value
limit_in None = None
limit_in (Some facet) = limit_at facet.reading

abbrev pub limit_of : FacetKind → List ReadFacet → Option Value
limit_of kind facets = limit_in (first_of kind facets)

-- what is done with white space
abbrev pub handling_at : Bool → Reading → Option Handling
handling_at fixed (readings.Handling value) = Some (record { value = value; fixed = fixed })
handling_at fixed _ = None

abbrev pub handling_in : Option ReadFacet → Option Handling
handling_in None = None
handling_in (Some facet) = handling_at facet.fixed facet.reading

abbrev pub handling_of : List ReadFacet → Option Handling
handling_of facets = handling_in (first_of kinds.WhiteSpace facets)
