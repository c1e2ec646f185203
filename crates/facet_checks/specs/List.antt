-- The facets in force for a simple type: Structures 3.14.1, Datatypes 4.3.
use Rattle.std.specs.Prelude.{[], None}
use Rattle.facet_checks.specs.declared.list.FacetList.{FacetList}

-- no facet is in force
abbrev pub no_facets : FacetList
no_facets = record {
  white_space = None;
  patterns = [];
  length = None;
  min_length = None;
  max_length = None;
  enumeration = None;
  max_inclusive = None;
  max_exclusive = None;
  min_inclusive = None;
  min_exclusive = None;
  total_digits = None;
  fraction_digits = None;
}

-- the facets that have no memory of their own
abbrev pub plain_part : FacetList → FacetList
plain_part list = record list { patterns = []; enumeration = None; max_inclusive = None; max_exclusive = None; min_inclusive = None; min_exclusive = None }
