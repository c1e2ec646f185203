-- The tables with a place for each type, before the types are built.
use Rattle.std.specs.Prelude.{false, List, [], ◌∷◌, ◌++◌, None}
use Rattle.xs_components.specs.Table.{with_part}
use Rattle.xs_components.specs.Tables.{Tables}
use Rattle.xs_components.specs.declared.common.Methods.{Methods}
use Rattle.xs_components.specs.declared.common.Place.{Place}
use Rattle.xs_components.specs.declared.common.TypeId.TheVariants.{AnyType}
use Rattle.xs_components.specs.declared.simple.SimpleForm.TheVariants.{Restrict}
use Rattle.xs_components.specs.declared.simple.SimpleType.{SimpleType}
use Rattle.xs_components.specs.declared.complex.ContentForm.TheVariants.{Complex}
use Rattle.xs_components.specs.declared.complex.ComplexType.{ComplexType}
use Rattle.representations.specs.declared.parts.Represented.{Represented}
use Rattle.representations.specs.declared.parts.Represented.TheVariants as forms
use Rattle.representations.specs.declared.parts.Representation.{Representation}

abbrev pub no_methods : Methods
no_methods = record { extension = false; restriction = false; substitution = false; by_list = false; by_union = false }

abbrev pub no_simple : Place → SimpleType
no_simple at = record { name = None; at = at; finals = no_methods; form = Restrict AnyType [] }

abbrev pub no_complex : Place → ComplexType
no_complex at = record {
  name = None;
  at = at;
  base = AnyType;
  by_extension = false;
  is_abstract = false;
  finals = no_methods;
  blocks = no_methods;
  content = Complex None false;
  uses = [];
  groups = [];
  prohibited = [];
  wildcard = None;
}

-- the tables with the place of a type more, where a type is represented
abbrev pub place_for : Represented → Place → Tables → Tables
place_for (forms.SimpleType name finals) at t = record t { simples = with_part t.simples (no_simple at) }
place_for (forms.ComplexType head) at t = record t { complexes = with_part t.complexes (no_complex at); contents = t.contents ++ None ∷ [] }
place_for _ at t = t

abbrev pub with_place : Tables → Representation → Tables
with_place t rep = place_for rep.form rep.at t

abbrev pub with_places : Tables → List Representation → Tables
with_places t [] = t
with_places t (rep ∷ reps) = with_places (with_place t rep) reps
