-- The facets of the built-in types: white space (Datatypes 4.3.6), and the bounds of the types of integers (3.3.13 to 3.3.25).
-- None of them is fixed.
use Rattle.std.specs.Prelude.{false, Option, None, Some}
use Rattle.dec_value.specs.Decimal.{Decimal}
use Rattle.xs_codes.specs.declared.builtin.Builtin.{Builtin}
use Rattle.simple_values.specs.declared.atom.Atom.TheVariants.{Number}
use Rattle.simple_values.specs.declared.value.Value.TheVariants.{Atom}
use Rattle.simple_values.specs.Bounds.{bounds_of}
use Rattle.simple_values.specs.Grammar.{white_space_of}
use Rattle.facet_checks.specs.declared.list.Bound.{Bound}
use Rattle.facet_checks.specs.declared.list.FacetList.{FacetList}
use Rattle.facet_checks.specs.List.{no_facets}

abbrev pub bound_at : Builtin → Option Decimal → Option Bound
bound_at kind None = None
bound_at kind (Some number) = Some (record { value = Atom kind (Number number); fixed = false })

abbrev pub facets_of : Builtin → FacetList
facets_of kind = record no_facets {
  white_space = Some (record { value = white_space_of kind; fixed = false });
  max_inclusive = bound_at kind (bounds_of kind).greatest;
  min_inclusive = bound_at kind (bounds_of kind).least;
}
