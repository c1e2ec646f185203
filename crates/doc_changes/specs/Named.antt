-- Names and namespaces by the numbers of a table, and by texts.
use Rattle.std.specs.Prelude.{◌≡◌, ℕ, ◌<◌, List, [], length, map, All, Option, Some, None}
use Rattle.xs_names.specs.Names.{NameTable}
use Rattle.tree_rows.specs.declared.name.Expanded.{Expanded}
use Rattle.tree_rows.specs.declared.row.Attribute.{Attribute}
use Rattle.tree_rows.specs.declared.row.Binding.{Binding}
use Rattle.doc_nodes.specs.declared.content.Element.{Element}
use Rattle.doc_nodes.specs.declared.content.NameAttribute.{NameAttribute}
use Rattle.doc_nodes.specs.declared.content.NameBinding.{NameBinding}
use Rattle.doc_changes.specs.Stands.{HasNames, expanded_of, attribute_of, binding_of}

-- the absent namespace goes by the empty text
abbrev pub space_text : Option (List ℕ) → List ℕ
space_text None = []
space_text (Some name) = name

-- these are the attributes, and the table has the numbers of their names
pub record HasAttributes (t : NameTable) (made : List NameAttribute) (attributes : List Attribute) : Type 0 where
  pub known : All (λ a. a.name < length t.names) made
  pub are : map (attribute_of t) made ≡ attributes

-- these are the bindings, and the table has the numbers of their namespaces
pub record HasBindings (t : NameTable) (made : List NameBinding) (bindings : List Binding) : Type 0 where
  pub known : All (λ b. b.namespace < length t.spaces) made
  pub are : map (binding_of t) made ≡ bindings

-- the element has this name and these parts under the numbers of a table
pub record IsCalled (t : NameTable) (e : Element) (name : Expanded) (bindings : List Binding) (attributes : List Attribute) : Type 0 where
  pub known : HasNames t e
  pub name_is : expanded_of t e.name ≡ name
  pub bindings_are : map (binding_of t) e.bindings ≡ bindings
  pub attributes_are : map (attribute_of t) e.attributes ≡ attributes
