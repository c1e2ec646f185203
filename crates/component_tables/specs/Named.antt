-- The types and the attribute declarations at the top of schema documents, by their names.
use Rattle.std.specs.Prelude.{ℕ, ◌-◌, List, [], ◌++◌, Option, None, Some, map, length, slice_index_or, nat_lt, if◌then◌else◌, bytes_eq, codes}
use Rattle.std.specs.Option.{option_map, option_and_then}
use Rattle.xs_names.specs.Names.{NameTable, name_number}
use Rattle.xs_components.specs.Tables.{Tables}
use Rattle.xs_components.specs.declared.attribute.AttributeDecl.{AttributeDecl}
use Rattle.xs_components.specs.declared.common.TypeId.{TypeId}
use Rattle.xs_components.specs.declared.common.TypeId.TheVariants.{AnyType, Builtin, Simple, Complex}
use Rattle.component_tables.specs.Symbols.{first_place}
use Rattle.xs_codes.specs.Builtins.{builtin_named}
use Rattle.schema_values.specs.GrammarNames.{schema_namespace}

-- The symbol space of types (Structures 2.5): the name of each type, the simple types before the complex ones. A type that does not
-- stand at the top of a schema document has none.
abbrev pub type_names : Tables → List (Option ℕ)
type_names t = map (λ part. part.name) t.simples.parts ++ map (λ part. part.name) t.complexes.parts

-- the name of an attribute declaration, where it stands at the top of a schema document
abbrev pub top_name : AttributeDecl → Option ℕ
top_name part = if part.global then Some part.name else None

-- the symbol space of attribute declarations (Structures 2.5)
abbrev pub attribute_names : Tables → List (Option ℕ)
attribute_names t = map top_name t.attributes.parts

-- the complex type of a number, if there is one
abbrev pub complex_at : Tables → ℕ → Option TypeId
complex_at t number = if nat_lt number (length t.complexes.parts) then Some (Complex number) else None

-- the type in a place of the symbol space
abbrev pub type_at : Tables → ℕ → Option TypeId
type_at t place = if nat_lt place (length t.simples.parts) then Some (Simple place) else complex_at t (place - length t.simples.parts)

-- The type definition at the top of a schema document with the name of this number, simple or complex.
abbrev pub type_with : Tables → ℕ → Option TypeId
type_with t name = option_and_then (type_at t) (first_place (type_names t) name)

-- The attribute declaration at the top of a schema document with the name of this number.
abbrev pub attribute_with : Tables → ℕ → Option ℕ
attribute_with t name = first_place (attribute_names t) name

-- the types of every schema (Structures 3.4.7, Datatypes 3), by their local names in the namespace of schema documents
abbrev pub own_type : List ℕ → Option TypeId
own_type local = if bytes_eq local (codes "anyType") then Some AnyType else option_map Builtin (builtin_named local)

-- QName resolution (Structures 3.15.4): the type definition with this namespace, by its number, and this local part. Those in the
-- namespace of schema documents are the types of every schema; others are defined at the top of schema documents.
abbrev pub named_type : NameTable → Tables → ℕ → List ℕ → Option TypeId
named_type names t space local =
    if bytes_eq (slice_index_or names.spaces space []) schema_namespace then own_type local
    else option_and_then (type_with t) (name_number names space local)

-- the names in both symbol spaces
pub record Spaces : Type 0 where
  pub types : List (Option ℕ)
  pub attributes : List (Option ℕ)

-- those of the components of a schema set
abbrev pub spaces_of : Tables → Spaces
spaces_of t = record { types = type_names t; attributes = attribute_names t }
