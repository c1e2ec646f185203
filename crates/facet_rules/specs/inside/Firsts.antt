-- What is kept of the first facets of each kind.
use Rattle.std.specs.Prelude.{List}
use Rattle.xs_components.specs.declared.simple.FacetKind.TheVariants as kinds
use Rattle.facet_rules.specs.declared.defects.Firsts.{Firsts}
use Rattle.facet_rules.specs.declared.step.ReadFacet.{ReadFacet}
use Rattle.facet_rules.specs.Step.{first_place}

abbrev pub firsts_of : List ReadFacet → Firsts
firsts_of facets = record {
  length = first_place kinds.Length 0 facets;
  min_length = first_place kinds.MinLength 0 facets;
  max_length = first_place kinds.MaxLength 0 facets;
  white_space = first_place kinds.WhiteSpace 0 facets;
  max_inclusive = first_place kinds.MaxInclusive 0 facets;
  max_exclusive = first_place kinds.MaxExclusive 0 facets;
  min_exclusive = first_place kinds.MinExclusive 0 facets;
  min_inclusive = first_place kinds.MinInclusive 0 facets;
  total_digits = first_place kinds.TotalDigits 0 facets;
  fraction_digits = first_place kinds.FractionDigits 0 facets;
}
