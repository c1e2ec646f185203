-- What this project does not support in a schema document.
use Rattle.std.specs.Prelude.{ℕ, Bool, true, false, ◌&&◌, ◌||◌, List, [], Option, Some, None, codes}
use Rattle.std.specs.List.{list_any}
use Rattle.std.specs.Option.{unwrap_or}
use Rattle.std.specs.Str.{bytes_eq}
use Rattle.tree_rows.specs.Naming.{same_name}
use Rattle.tree_rows.specs.declared.name.Expanded.{Expanded}
use Rattle.tree_rows.specs.declared.row.Attribute.{Attribute}
use Rattle.tree_rows.specs.declared.row.Binding.{Binding}
use Rattle.schema_values.specs.GrammarNames.{schema_namespace}
use Rattle.schema_values.specs.declared.grammar_kinds.AttributeName.TheVariants as an
use Rattle.schema_values.specs.declared.grammar_kinds.Kind.{Kind}
use Rattle.schema_values.specs.declared.grammar_kinds.Kind.TheVariants as k
use Rattle.schema_values.specs.Attributes.{value_of, name_of, names_of}
use Rattle.schema_faults.specs.declared.unsupported.TypeNames.{TypeNames}

-- the types that an element refers to
abbrev pub type_names : List Binding → List Attribute → TypeNames
type_names scope attributes = record {
  of = name_of an.Type scope attributes;
  base = name_of an.Base scope attributes;
  item = name_of an.ItemType scope attributes;
  members = names_of an.MemberTypes scope attributes;
}

-- the name is of this built-in type
abbrev pub is_builtin : List ℕ → Expanded → Bool
is_builtin local name = same_name name (record { namespace = Some schema_namespace; local = local })

abbrev pub names_this : List ℕ → Option Expanded → Bool
names_this local None = false
names_this local (Some name) = is_builtin local name

-- a type reference names this built-in type
abbrev pub names_builtin : List ℕ → TypeNames → Bool
names_builtin local names =
    names_this local names.of || (names_this local names.base || (names_this local names.item || list_any (is_builtin local) names.members))

-- x-unsupported.float (own): a type reference names xs:float
abbrev pub names_float : TypeNames → Bool
names_float names = names_builtin (codes "float") names

-- x-unsupported.double (own): a type reference names xs:double
abbrev pub names_double : TypeNames → Bool
names_double names = names_builtin (codes "double") names

-- x-unsupported.ENTITY (own): a type reference names xs:ENTITY
abbrev pub names_entity : TypeNames → Bool
names_entity names = names_builtin (codes "ENTITY") names

-- x-unsupported.ENTITIES (own): a type reference names xs:ENTITIES
abbrev pub names_entities : TypeNames → Bool
names_entities names = names_builtin (codes "ENTITIES") names

-- x-unsupported.NOTATION (own): a type reference names xs:NOTATION
abbrev pub names_notation_type : TypeNames → Bool
names_notation_type names = names_builtin (codes "NOTATION") names

-- x-unsupported.notation (own): the element is `notation`
abbrev pub is_notation : Kind → Bool
is_notation k.Notation = true
is_notation _ = false

abbrev pub is_schema : Kind → Bool
is_schema k.Schema = true
is_schema _ = false

-- x-unsupported.target (own): targetNamespace is the schema namespace
abbrev pub has_schema_target : Kind → List Attribute → Bool
has_schema_target kind attributes =
    is_schema kind && bytes_eq (unwrap_or (value_of an.TargetNamespace attributes) []) schema_namespace
