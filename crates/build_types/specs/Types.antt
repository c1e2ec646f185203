-- The types that are meant by names and by what stands in an element.
use Rattle.std.specs.Prelude.{ℕ, List, Option, None, Some, find, slice_index_or}
use Rattle.std.specs.Option.{option_map, unwrap_or}
use Rattle.component_tables.specs.Symbols.{first_place}
use Rattle.xs_components.specs.declared.common.TypeId.{TypeId}
use Rattle.xs_components.specs.declared.common.TypeId.TheVariants as types
use Rattle.representations.specs.declared.parts.TypeName.{TypeName}
use Rattle.representations.specs.declared.parts.TypeName.TheVariants as names
use Rattle.representations.specs.declared.source.Source.{Source}
use Rattle.representations.specs.Members.{is_type_at}

abbrev pub type_at : List TypeId → ℕ → TypeId
type_at ids place = slice_index_or ids place types.AnyType

-- where types have these numbers by place
module _ (source : Source) (ids : List TypeId) where
  -- Structures 3.15.3: a name means the type of that name; of several the first counts
  abbrev pub meant_type : TypeName → TypeId
  meant_type names.AnyType = types.AnyType
  meant_type (names.Builtin of) = types.Builtin of
  meant_type (names.Named name) = unwrap_or (option_map (type_at ids) (first_place source.spaces.now.types name)) types.AnyType

  -- the first type among members
  abbrev pub child_type : List ℕ → Option TypeId
  child_type members = option_map (type_at ids) (find (is_type_at source.reps.now) members)

  -- a type is named by an attribute, or stands in the element
  abbrev pub given_type : Option TypeName → List ℕ → Option TypeId
  given_type (Some name) members = Some (meant_type name)
  given_type None members = child_type members
