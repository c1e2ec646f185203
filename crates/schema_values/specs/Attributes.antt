-- The attributes of a schema element by their names: those of the table are in no namespace.
use Rattle.std.specs.Prelude.{ℕ, Bool, ◌&&◌, List, [], Option, is_some, is_none}
use Rattle.std.specs.List.{find}
use Rattle.std.specs.Option.{option_map, option_and_then, unwrap_or}
use Rattle.std.specs.Str.{bytes_eq}
use Rattle.xs_names.specs.WhiteSpace.{collapsed, items}
use Rattle.tree_rows.specs.declared.name.Expanded.{Expanded}
use Rattle.tree_rows.specs.declared.row.Attribute.{Attribute}
use Rattle.tree_rows.specs.declared.row.Binding.{Binding}
use Rattle.schema_values.specs.GrammarNames.{attribute_text}
use Rattle.schema_values.specs.declared.grammar_kinds.AttributeName.{AttributeName}
use Rattle.xs_components.specs.declared.common.Methods.{Methods}
use Rattle.schema_values.specs.Values.{boolean_of}
use Rattle.schema_values.specs.Names.{qname_of, names_in}
use Rattle.schema_values.specs.Words.{set_of}

-- the attribute has no namespace and this name
abbrev pub is_named : AttributeName → Attribute → Bool
is_named name a = is_none a.name.namespace && bytes_eq a.name.local (attribute_text name)

abbrev pub attribute_of : AttributeName → List Attribute → Option Attribute
attribute_of name attributes = find (is_named name) attributes

abbrev pub has : AttributeName → List Attribute → Bool
has name attributes = is_some (attribute_of name attributes)

-- the value of an attribute as it stands, and with its white space collapsed
abbrev pub raw_of : AttributeName → List Attribute → Option (List ℕ)
raw_of name attributes = option_map (λ a. a.value) (attribute_of name attributes)

abbrev pub value_of : AttributeName → List Attribute → Option (List ℕ)
value_of name attributes = option_map (λ a. collapsed a.value) (attribute_of name attributes)

-- the name that an attribute refers to
abbrev pub name_of : AttributeName → List Binding → List Attribute → Option Expanded
name_of name scope attributes = option_and_then (qname_of scope) (value_of name attributes)

-- the names that an attribute refers to
abbrev pub names_of : AttributeName → List Binding → List Attribute → List Expanded
names_of name scope attributes = unwrap_or (option_map (λ text. names_in scope (items text)) (value_of name attributes)) []

-- the boolean that an attribute gives
abbrev pub flag_of : AttributeName → List Attribute → Option Bool
flag_of name attributes = option_and_then boolean_of (value_of name attributes)

-- the methods that an attribute gives
abbrev pub methods_of : AttributeName → List Attribute → Option Methods
methods_of name attributes = option_map set_of (value_of name attributes)
