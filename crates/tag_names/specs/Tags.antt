-- The names of a start tag, and its bindings and attributes.
use Rattle.std.specs.Prelude.{ℕ, List, [], ◌∷◌, ◌++◌, Bool, nat_eq, drop, Option, Some, None, ◌||◌, codes, if◌then◌else◌}
use Rattle.std.specs.List.{starts_with}
use Rattle.std.specs.Str.{bytes_eq}
use Rattle.xs_names.specs.QName.{qname}
use Rattle.tree_rows.specs.declared.name.Expanded.{Expanded}
use Rattle.tree_rows.specs.declared.row.Attribute.{Attribute}
use Rattle.tree_rows.specs.declared.row.Binding.{Binding}
use Rattle.tag_names.specs.Scopes.{element_space, attribute_space}
use Rattle.tag_names.specs.declared.lines.AttributeLine.{AttributeLine}
use Rattle.tag_names.specs.declared.lines.Tag.{Tag}
use Rattle.tag_names.specs.declared.named.Named.{Named}

-- xmlns, or xmlns: and a prefix: the attribute binds the default namespace or the prefix (Namespaces in XML 1.0, 3)
abbrev pub is_binding : AttributeLine → Bool
is_binding line = bytes_eq line.name (codes "xmlns") || starts_with nat_eq line.name (codes "xmlns:")

-- the prefix that is bound, empty for the default namespace, and the namespace's name
abbrev pub binding_of : AttributeLine → Binding
binding_of line = record { prefix = drop 6 line.name; namespace = line.value }

-- the prefix that an attribute binds, if it is a binding
abbrev pub bound_prefix : AttributeLine → Option (List ℕ)
bound_prefix line = if is_binding line then Some (drop 6 line.name) else None

-- the bindings of a tag, in order
abbrev pub bindings_in : List AttributeLine → List Binding
bindings_in [] = []
bindings_in (line ∷ lines) = if is_binding line then binding_of line ∷ bindings_in lines else bindings_in lines

-- the scope in which the names of a tag stand, and what the element holds: its own bindings come first
abbrev pub scope_within : List Binding → Tag → List Binding
scope_within scope tag = bindings_in tag.attributes ++ scope

-- the prefix and the local part that were found; a name that is no QName counts as a local part
abbrev pub parts_by : List ℕ → Option (Option (List ℕ) × List ℕ) → Option (List ℕ) × List ℕ
parts_by name None = (None, name)
parts_by name (Some found) = found

-- the prefix and the local part of a name as it is written
abbrev pub prefix_of : List ℕ → Option (List ℕ)
prefix_of name = (parts_by name (qname name)).0

abbrev pub local_of : List ℕ → List ℕ
local_of name = (parts_by name (qname name)).1

-- the expanded name of an element, and of an attribute that is no binding
abbrev pub element_name : List Binding → List ℕ → Expanded
element_name scope name = record { namespace = element_space scope (prefix_of name); local = local_of name }

abbrev pub attribute_name : List Binding → List ℕ → Expanded
attribute_name scope name = record { namespace = attribute_space scope (prefix_of name); local = local_of name }

-- the attributes of a tag that are no bindings, in order
abbrev pub attributes_in : List Binding → List AttributeLine → List Attribute
attributes_in scope [] = []
attributes_in scope (line ∷ lines) =
    if is_binding line then attributes_in scope lines
    else record { name = attribute_name scope line.name; value = line.value } ∷ attributes_in scope lines

-- what a tag says of its element, where it stands in this scope
abbrev pub named : List Binding → Tag → Named
named scope tag = record {
  name = element_name (scope_within scope tag) tag.name;
  bindings = bindings_in tag.attributes;
  attributes = attributes_in (scope_within scope tag) tag.attributes;
}
