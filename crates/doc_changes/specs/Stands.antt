-- What nodes by number stand for: a document, where names go by the numbers of a table.
use Rattle.std.specs.Prelude.{◌≡◌, ℕ, ◌<◌, List, [], ◌∷◌, ◌==◌, length, map, true, All, Option, Some, None, slice_index_or, if◌then◌else◌}
use Rattle.xs_names.specs.Names.{NameTable, IsSound, absent_space, space_of, local_of}
use Rattle.tree_rows.specs.Forest.{Forest, none, text, element, Document}
use Rattle.tree_rows.specs.Whole.{IsTree}
use Rattle.tree_rows.specs.declared.name.Expanded.{Expanded}
use Rattle.tree_rows.specs.declared.row.Attribute.{Attribute}
use Rattle.tree_rows.specs.declared.row.Binding.{Binding}
use Rattle.tree_edits.specs.Edits.{has}
use Rattle.doc_nodes.specs.Nodes.{Node, Nodes, IsNode, IsSound as AreSound}
use Rattle.doc_nodes.specs.declared.content.Content.TheVariants as contents
use Rattle.doc_nodes.specs.declared.content.Element.{Element}
use Rattle.doc_nodes.specs.declared.content.NameAttribute.{NameAttribute}
use Rattle.doc_nodes.specs.declared.content.NameBinding.{NameBinding}

-- the name of a namespace, none for the absent one
abbrev pub namespace_of : NameTable → ℕ → Option (List ℕ)
namespace_of t ns = if ns == absent_space then None else Some (slice_index_or t.spaces ns [])

-- the expanded name of a number
abbrev pub expanded_of : NameTable → ℕ → Expanded
expanded_of t n = record { namespace = namespace_of t (space_of t n); local = local_of t n }

abbrev pub attribute_of : NameTable → NameAttribute → Attribute
attribute_of t a = record { name = expanded_of t a.name; value = a.value }

abbrev pub binding_of : NameTable → NameBinding → Binding
binding_of t b = record { prefix = b.prefix; namespace = slice_index_or t.spaces b.namespace [] }

-- the table has the numbers of an element's names and namespaces
pub record HasNames (t : NameTable) (e : Element) : Type 0 where
  pub name : e.name < length t.names
  pub attributes : All (λ a. a.name < length t.names) e.attributes
  pub bindings : All (λ b. b.namespace < length t.spaces) e.bindings

-- the numbers of the siblings
abbrev pub firsts : Forest → List ℕ
firsts none = []
firsts (text number chars next) = number ∷ firsts next
firsts (element number name bindings attributes children next) = number ∷ firsts next

-- the node of this number is a text of these characters
pub record IsText (ns : Nodes) (number : ℕ) (chars : List ℕ) : Type 0 where
  pub text : Node
  pub is : IsNode ns number text
  pub content : text.content ≡ contents.Chars chars
  pub no_children : text.children ≡ []

-- the node of this number is an element of this name, with these parts and children
pub record IsElement (t : NameTable) (ns : Nodes) (number : ℕ) (name : Expanded) (bindings : List Binding) (attributes : List Attribute) (children : Forest) : Type 0 where
  pub it : Node
  pub is : IsNode ns number it
  pub parts : Element
  pub content : it.content ≡ contents.Element parts
  pub known : HasNames t parts
  pub name_is : expanded_of t parts.name ≡ name
  pub bindings_are : map (binding_of t) parts.bindings ≡ bindings
  pub attributes_are : map (attribute_of t) parts.attributes ≡ attributes
  pub children_are : it.children ≡ firsts children

-- the siblings are those of the nodes
abbrev pub StandFor : NameTable → Nodes → Forest → Type 0
StandFor t ns none = Unit {0}
StandFor t ns (text number chars next) = IsText ns number chars × StandFor t ns next
StandFor t ns (element number name bindings attributes children next) =
    IsElement t ns number name bindings attributes children × StandFor t ns children × StandFor t ns next

-- the nodes are those of the document, and no others: the root has no parent, the next free number is the next that is given
-- out
pub record StandsFor (t : NameTable) (ns : Nodes) (d : Document) : Type 0 where
  pub table : IsSound t
  pub links : AreSound ns
  pub tree : IsTree d
  pub nodes : StandFor t ns d.forest
  pub root : (it : Node) → IsNode ns 1 it → (it.parent ≡ None) × (it.depth ≡ 1)
  pub only : (n : ℕ) (it : Node) → IsNode ns n it → has n d.forest ≡ true
  pub next : length ns ≡ d.next_free
