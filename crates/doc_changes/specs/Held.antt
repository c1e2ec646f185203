-- What the nodes of numbers are and hold.
use Rattle.std.specs.Prelude.{◌≡◌, ◌⊎◌, ℕ, ◌+◌, ◌<◌, List, [], ◌∷◌, ◌==◌, Bool, true, length, Option, Some, None, if◌then◌else◌}
use Rattle.std.specs.List.{list_any}
use Rattle.std.specs.Option.{option_map, option_and_then}
use Rattle.tree_rows.specs.declared.limits.TheConstants.{MAX_ATTRIBUTES}
use Rattle.tree_rows.specs.declared.row.NodeKind.{NodeKind}
use Rattle.tree_rows.specs.declared.row.NodeKind.TheVariants as kinds
use Rattle.doc_nodes.specs.Nodes.{Node, Nodes, node}
use Rattle.doc_nodes.specs.declared.content.Content.{Content}
use Rattle.doc_nodes.specs.declared.content.Content.TheVariants as contents
use Rattle.doc_nodes.specs.declared.content.NameAttribute.{NameAttribute}
use Rattle.doc_nodes.specs.declared.content.NameBinding.{NameBinding}

abbrev pub kind_in : Content → NodeKind
kind_in (contents.Element e) = kinds.Element
kind_in (contents.Chars chars) = kinds.Chars

-- the number of an element's name
abbrev pub name_in : Content → Option ℕ
name_in (contents.Element e) = Some e.name
name_in (contents.Chars chars) = None

abbrev pub chars_in : Content → Option (List ℕ)
chars_in (contents.Element e) = None
chars_in (contents.Chars chars) = Some chars

abbrev pub attributes_in : Content → List NameAttribute
attributes_in (contents.Element e) = e.attributes
attributes_in (contents.Chars chars) = []

abbrev pub bindings_in : Content → List NameBinding
bindings_in (contents.Element e) = e.bindings
bindings_in (contents.Chars chars) = []

-- whether the node of this number is an element or a text; none where it is of no node
abbrev pub kind_at : Nodes → ℕ → Option NodeKind
kind_at ns n = option_map (λ (it : Node). kind_in it.content) (node ns n)

-- the parent of the node of this number; none for a root, and where it is of no node
abbrev pub parent_at : Nodes → ℕ → Option ℕ
parent_at ns n = option_and_then (λ (it : Node). it.parent) (node ns n)

-- the attributes and the bindings of the node of this number; none where it is of no element
abbrev pub attributes_by : Option Node → List NameAttribute
attributes_by None = []
attributes_by (Some it) = attributes_in it.content

abbrev pub attributes_at : Nodes → ℕ → List NameAttribute
attributes_at ns n = attributes_by (node ns n)

abbrev pub bindings_by : Option Node → List NameBinding
bindings_by None = []
bindings_by (Some it) = bindings_in it.content

abbrev pub bindings_at : Nodes → ℕ → List NameBinding
bindings_at ns n = bindings_by (node ns n)

-- an attribute has the name of this number
abbrev pub has_number : ℕ → List NameAttribute → Bool
has_number name attributes = list_any (λ a. a.name == name) attributes

-- the attribute of the name has this value, in its place; where there is none, there is one more, the last
abbrev pub set_number : ℕ → List ℕ → List NameAttribute → List NameAttribute
set_number name value [] = record { name = name; value = value } ∷ []
set_number name value (a ∷ more) = if a.name == name then record { name = name; value = value } ∷ more else a ∷ set_number name value more

-- the attribute of the name is gone
abbrev pub unset_number : ℕ → List NameAttribute → List NameAttribute
unset_number name [] = []
unset_number name (a ∷ more) = if a.name == name then more else a ∷ unset_number name more

-- the element of this number has an attribute of the name, or fewer attributes and bindings than it may have
abbrev pub HasRoom : Nodes → ℕ → ℕ → Type 0
HasRoom ns n name = (has_number name (attributes_at ns n) ≡ true) ⊎ (length (attributes_at ns n) + length (bindings_at ns n) < MAX_ATTRIBUTES)
