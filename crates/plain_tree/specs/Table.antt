-- The table of names with those that stand in a document, in document order.
use Rattle.std.specs.Prelude.{List, [], ◌∷◌, Option, None, Some, ℕ}
use Rattle.xs_names.specs.Names.{NameTable, with_space, with_name}
use Rattle.tree_rows.specs.Forest.{Forest, none, text, element}
use Rattle.tree_rows.specs.declared.name.Expanded.{Expanded}
use Rattle.tree_rows.specs.declared.row.Attribute.{Attribute}
use Rattle.tree_rows.specs.declared.row.Binding.{Binding}
use Rattle.plain_tree.specs.Numbers.{space_in}

-- the table with a namespace in it; the absent one is in every table
abbrev pub with_namespace : NameTable → Option (List ℕ) → NameTable
with_namespace t None = t
with_namespace t (Some space) = with_space t space

-- the table with an expanded name in it, whose namespace is there
abbrev pub with_local : NameTable → Expanded → NameTable
with_local t name = with_name t (space_in t name.namespace) name.local

abbrev pub with_expanded : NameTable → Expanded → NameTable
with_expanded t name = with_local (with_namespace t name.namespace) name

-- the table with the namespaces of bindings in it
abbrev pub with_bindings : NameTable → List Binding → NameTable
with_bindings t [] = t
with_bindings t (binding ∷ bindings) = with_bindings (with_space t binding.namespace) bindings

-- the table with the names of attributes in it
abbrev pub with_attributes : NameTable → List Attribute → NameTable
with_attributes t [] = t
with_attributes t (attribute ∷ attributes) = with_attributes (with_expanded t attribute.name) attributes

-- the table with the names of a start tag in it: its bindings', its own and its attributes'
abbrev pub with_tag : NameTable → Expanded → List Binding → List Attribute → NameTable
with_tag t name bindings attributes = with_attributes (with_expanded (with_bindings t bindings) name) attributes

-- the table with the names of all start tags of a document in it
abbrev pub document_table : NameTable → Forest → NameTable
document_table t none = t
document_table t (text number chars next) = document_table t next
document_table t (element number name bindings attributes children next) =
    document_table (document_table (with_tag t name bindings attributes) children) next
