-- Types by their names.
use Rattle.std.specs.Prelude.{ℕ, List, Option, None, Some, map, if◌then◌else◌, bytes_eq, codes}
use Rattle.std.specs.Option.{option_map, unwrap_or}
use Rattle.tree_rows.specs.Naming.{same_space}
use Rattle.tree_rows.specs.declared.name.Expanded.{Expanded}
use Rattle.xs_names.specs.Names.{NameTable}
use Rattle.xs_codes.specs.Builtins.{builtin_named}
use Rattle.schema_values.specs.GrammarNames.{schema_namespace}
use Rattle.representations.specs.declared.naming.Naming.{Naming}
use Rattle.representations.specs.Naming.{reference_number}
use Rattle.representations.specs.declared.parts.TypeName.{TypeName}
use Rattle.representations.specs.declared.parts.TypeName.TheVariants as types

-- the types of every schema (Structures 3.4.7, Datatypes 3), by their local names in the namespace of schema documents
abbrev pub own_type : List ℕ → Option TypeName
own_type local = if bytes_eq local (codes "anyType") then Some types.AnyType else option_map types.Builtin (builtin_named local)

abbrev pub known_type : Expanded → Option TypeName
known_type name = if same_space name.namespace (Some schema_namespace) then own_type name.local else None

-- another type by the number of its name
abbrev pub type_name : NameTable → Naming → Expanded → TypeName
type_name t naming name = unwrap_or (known_type name) (types.Named (reference_number t naming name))

abbrev pub type_name_if : NameTable → Naming → Option Expanded → Option TypeName
type_name_if t naming None = None
type_name_if t naming (Some name) = Some (type_name t naming name)

abbrev pub type_names : NameTable → Naming → List Expanded → List TypeName
type_names t naming names = map (type_name t naming) names
