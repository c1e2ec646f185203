-- The facets in force behind a step of restriction: Structures 3.14.6, Datatypes 4.3.
use Rattle.std.specs.Prelude.{ℕ, Bool, ◌||◌, if◌then◌else◌, List, [], ◌∷◌, ◌++◌, Option, None, Some, is_some}
use Rattle.xs_components.specs.declared.simple.FacetKind.{FacetKind}
use Rattle.xs_components.specs.declared.simple.FacetKind.TheVariants as kinds
use Rattle.simple_values.specs.declared.value.Value.{Value}
use Rattle.facet_checks.specs.declared.list.Bound.{Bound}
use Rattle.facet_checks.specs.declared.list.FacetList.{FacetList}
use Rattle.facet_rules.specs.declared.step.Reading.{Reading}
use Rattle.facet_rules.specs.declared.step.Reading.TheVariants as readings
use Rattle.facet_rules.specs.declared.step.ReadFacet.{ReadFacet}
use Rattle.facet_rules.specs.declared.step.ReadStep.{ReadStep}
use Rattle.facet_rules.specs.Step.{first_of, count_of, limit_of, handling_of}

-- the step's, where it has one, else the base's
abbrev pub behind : {T : Type 0} → Option T → Option T → Option T
behind base None = base
behind base (Some own) = Some own

abbrev pub bound_at : Bool → Reading → Option Bound
bound_at fixed (readings.Limit value) = Some (record { value = value; fixed = fixed })
bound_at fixed _ = None

abbrev pub bound_in : Option ReadFacet → Option Bound
bound_in None = None
bound_in (Some facet) = bound_at facet.fixed facet.reading

-- the bound that the step has of a kind
abbrev pub own_bound : FacetKind → List ReadFacet → Option Bound
own_bound kind facets = bound_in (first_of kind facets)

abbrev pub has_bound : FacetKind → List ReadFacet → Bool
has_bound kind facets = is_some (limit_of kind facets)

-- the step has an upper bound
abbrev pub has_upper : List ReadFacet → Bool
has_upper facets = has_bound kinds.MaxInclusive facets || has_bound kinds.MaxExclusive facets

-- the step has a lower bound
abbrev pub has_lower : List ReadFacet → Bool
has_lower facets = has_bound kinds.MinInclusive facets || has_bound kinds.MinExclusive facets

-- a bound of the step replaces both bounds of its side
abbrev pub bound_behind : Option Bound → Bool → FacetKind → List ReadFacet → Option Bound
bound_behind base replaced kind facets = if replaced then own_bound kind facets else base

-- an enumeration of the step replaces the base's
abbrev pub enumeration_behind : Option (List Value) → List Value → Option (List Value)
enumeration_behind base [] = base
enumeration_behind base (value ∷ values) = Some (value ∷ values)

-- the patterns of a step are added to those of its base
abbrev pub patterns_behind : List (List (List ℕ)) → List (List ℕ) → List (List (List ℕ))
patterns_behind base [] = base
patterns_behind base (pattern ∷ patterns) = base ++ (pattern ∷ patterns) ∷ []

-- with the white space, the lengths and the digits of the step
abbrev pub with_counts : FacetList → List ReadFacet → FacetList
with_counts base facets = record base {
  white_space = behind base.white_space (handling_of facets);
  length = behind base.length (count_of kinds.Length facets);
  min_length = behind base.min_length (count_of kinds.MinLength facets);
  max_length = behind base.max_length (count_of kinds.MaxLength facets);
  total_digits = behind base.total_digits (count_of kinds.TotalDigits facets);
  fraction_digits = behind base.fraction_digits (count_of kinds.FractionDigits facets);
}

-- with the upper bounds of the step
abbrev pub with_upper : FacetList → List ReadFacet → FacetList
with_upper base facets = record base {
  max_inclusive = bound_behind base.max_inclusive (has_upper facets) kinds.MaxInclusive facets;
  max_exclusive = bound_behind base.max_exclusive (has_upper facets) kinds.MaxExclusive facets;
}

-- with the lower bounds of the step
abbrev pub with_lower : FacetList → List ReadFacet → FacetList
with_lower base facets = record base {
  min_inclusive = bound_behind base.min_inclusive (has_lower facets) kinds.MinInclusive facets;
  min_exclusive = bound_behind base.min_exclusive (has_lower facets) kinds.MinExclusive facets;
}

-- with the enumeration of the step
abbrev pub with_values : FacetList → List Value → FacetList
with_values base values = record base { enumeration = enumeration_behind base.enumeration values }

-- with the patterns of the step
abbrev pub with_patterns : FacetList → List (List ℕ) → FacetList
with_patterns base patterns = record base { patterns = patterns_behind base.patterns patterns }

-- what is in force behind the step
abbrev pub merged : FacetList → ReadStep → FacetList
merged base step = record {
  white_space = behind base.white_space (handling_of step.facets);
  patterns = patterns_behind base.patterns step.patterns;
  length = behind base.length (count_of kinds.Length step.facets);
  min_length = behind base.min_length (count_of kinds.MinLength step.facets);
  max_length = behind base.max_length (count_of kinds.MaxLength step.facets);
  enumeration = enumeration_behind base.enumeration step.values;
  max_inclusive = bound_behind base.max_inclusive (has_upper step.facets) kinds.MaxInclusive step.facets;
  max_exclusive = bound_behind base.max_exclusive (has_upper step.facets) kinds.MaxExclusive step.facets;
  min_inclusive = bound_behind base.min_inclusive (has_lower step.facets) kinds.MinInclusive step.facets;
  min_exclusive = bound_behind base.min_exclusive (has_lower step.facets) kinds.MinExclusive step.facets;
  total_digits = behind base.total_digits (count_of kinds.TotalDigits step.facets);
  fraction_digits = behind base.fraction_digits (count_of kinds.FractionDigits step.facets);
}
