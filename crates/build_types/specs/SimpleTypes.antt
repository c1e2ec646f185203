-- Simple types by their representations (Structures 3.14.2).
use Rattle.std.specs.Prelude.{ℕ, List, [], ◌∷◌, ◌++◌, Option, None, Some, map, slice_get, slice_index_or, if◌then◌else◌}
use Rattle.std.specs.List.{flat_map}
use Rattle.std.specs.Option.{option_and_then, unwrap_or}
use Rattle.xs_names.specs.Scope.{first_scope}
use Rattle.xs_components.specs.declared.common.Place.{Place}
use Rattle.xs_components.specs.declared.common.TypeId.{TypeId}
use Rattle.xs_components.specs.declared.common.TypeId.TheVariants as types
use Rattle.xs_components.specs.declared.simple.FacetItem.{FacetItem}
use Rattle.xs_components.specs.declared.simple.SimpleForm.{SimpleForm}
use Rattle.xs_components.specs.declared.simple.SimpleForm.TheVariants.{Restrict, ListOf, UnionOf}
use Rattle.xs_components.specs.declared.simple.SimpleType.{SimpleType}
use Rattle.representations.specs.declared.parts.Represented.{Represented}
use Rattle.representations.specs.declared.parts.Represented.TheVariants as forms
use Rattle.representations.specs.declared.parts.Representation.{Representation}
use Rattle.representations.specs.declared.parts.TypeName.{TypeName}
use Rattle.representations.specs.declared.source.Source.{Source}
use Rattle.representations.specs.Members.{is_type_at}
use Rattle.build_types.specs.Types.{type_at, meant_type, given_type}

-- the scope at a place
abbrev pub scope_at : List (List (List ℕ × ℕ)) → ℕ → List (List ℕ × ℕ)
scope_at scopes place = slice_index_or scopes place first_scope

abbrev pub first_member : List Representation → List ℕ → Option Representation
first_member reps members = option_and_then (slice_get reps) (slice_get members 0)

module _ (source : Source) where
  -- a facet, read in the scope of its element (Datatypes 4.3)
  abbrev pub facets_by : Represented → Place → ℕ → List FacetItem
  facets_by (forms.Facet kind text fixed) at scope = record { kind = kind; text = text; fixed = fixed; at = at; scope = scope_at source.scopes.now scope } ∷ []
  facets_by _ at scope = []

  abbrev pub facets_of : Representation → List FacetItem
  facets_of rep = facets_by rep.form rep.at rep.scope

  abbrev pub facets_in : Option Representation → List FacetItem
  facets_in None = []
  facets_in (Some rep) = facets_of rep

  abbrev pub facets_at : ℕ → List FacetItem
  facets_at place = facets_in (slice_get source.reps.now place)

  -- the facets among members, in order
  abbrev pub facets : List ℕ → List FacetItem
  facets members = flat_map facets_at members

-- where types have these numbers by place
module _ (source : Source) (ids : List TypeId) where
  abbrev pub named_types : List TypeName → List TypeId
  named_types names = map (meant_type source ids) names

  -- the types among members, in order
  abbrev pub types_at : ℕ → List TypeId
  types_at place = if is_type_at source.reps.now place then type_at ids place ∷ [] else []

  abbrev pub child_types : List ℕ → List TypeId
  child_types members = flat_map types_at members

  -- the base of a restriction is named or stands in it, before the facets
  abbrev pub restriction : Option TypeName → List ℕ → SimpleForm
  restriction base members = Restrict (unwrap_or (given_type source ids base members) types.AnyType) (facets source members)

  -- a restriction; a list, whose item type is named or stands in it; a union, first of the types that are named and then of those
  -- that stand in it
  abbrev pub form_by : Represented → List ℕ → SimpleForm
  form_by (forms.Restriction base) members = restriction base members
  form_by (forms.ItemType of) members = ListOf (unwrap_or (given_type source ids of members) types.AnyType)
  form_by (forms.Union names) members = UnionOf (named_types names ++ child_types members)
  form_by _ members = restriction None []

  abbrev pub form_of : Representation → SimpleForm
  form_of rep = form_by rep.form rep.members

  abbrev pub form_in : Option Representation → SimpleForm
  form_in None = restriction None []
  form_in (Some rep) = form_of rep

  -- the one element in a simpleType says how it is made
  abbrev pub simple_form : List ℕ → SimpleForm
  simple_form members = form_in (first_member source.reps.now members)

  -- a simple type definition
  abbrev pub simples_by : Represented → Place → List ℕ → List SimpleType
  simples_by (forms.SimpleType name finals) at members = record { name = name; at = at; finals = finals; form = simple_form members } ∷ []
  simples_by _ at members = []

  abbrev pub simples_of : Representation → List SimpleType
  simples_of rep = simples_by rep.form rep.at rep.members

  -- all, in the order of their representations
  abbrev pub simple_types : List SimpleType
  simple_types = flat_map simples_of source.reps.now
