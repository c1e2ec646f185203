-- What nodes by number say of an element, as it is said of the tree that they stand for.
use Rattle.std.specs.Prelude.{◌≡◌, ℕ, zero, suc, List, [], ◌∷◌, ◌++◌, map, flat_map, reverse, Option, Some, None, unwrap_or}
use Rattle.xs_names.specs.Names.{NameTable}
use Rattle.xs_names.specs.Scope.{first_scope}
use Rattle.tree_rows.specs.Forest.{Forest, none, text, element}
use Rattle.tree_rows.specs.declared.name.Expanded.{Expanded}
use Rattle.tree_rows.specs.declared.row.Attribute.{Attribute}
use Rattle.tree_rows.specs.declared.row.Binding.{Binding}
use Rattle.doc_nodes.specs.Nodes.{Node, Nodes, node, children_by, element_children, depth_by}
use Rattle.doc_nodes.specs.declared.content.NameBinding.{NameBinding}
use Rattle.doc_changes.specs.Stands.{expanded_of, attribute_of, binding_of}
use Rattle.doc_changes.specs.Held.{name_in, chars_in, parent_at, attributes_at, bindings_at}

-- the number of the name of the node of this number; 0 where it is of no element
abbrev pub name_by : Option Node → ℕ
name_by None = 0
name_by (Some it) = unwrap_or (name_in it.content) 0

abbrev pub name_at : Nodes → ℕ → ℕ
name_at ns n = name_by (node ns n)

-- its characters, none where it is of no text
abbrev pub chars_by : Option Node → List ℕ
chars_by None = []
chars_by (Some it) = unwrap_or (chars_in it.content) []

abbrev pub chars_at : Nodes → ℕ → List ℕ
chars_at ns n = chars_by (node ns n)

-- the characters of its texts, one after another
abbrev pub own_chars : Nodes → ℕ → List ℕ
own_chars ns n = flat_map (chars_at ns) (children_by (node ns n))

-- the characters of the texts and the numbers of the elements among siblings
abbrev pub characters : Forest → List ℕ
characters none = []
characters (text number chars next) = chars ++ characters next
characters (element number name bindings attributes children next) = characters next

abbrev pub element_numbers : Forest → List ℕ
element_numbers none = []
element_numbers (text number chars next) = element_numbers next
element_numbers (element number name bindings attributes children next) = number ∷ element_numbers next

-- the nodes say of the element of this number what the tree says of it
pub record IsRead (t : NameTable) (ns : Nodes) (number : ℕ) (name : Expanded) (bindings : List Binding) (attributes : List Attribute) (children : Forest) : Type 0 where
  pub name_is : expanded_of t (name_at ns number) ≡ name
  pub bindings_are : map (binding_of t) (bindings_at ns number) ≡ bindings
  pub attributes_are : map (attribute_of t) (attributes_at ns number) ≡ attributes
  pub chars_are : own_chars ns number ≡ characters children
  pub children_are : element_children ns number ≡ element_numbers children

abbrev pub AreRead : NameTable → Nodes → Forest → Type 0
AreRead t ns none = Unit {0}
AreRead t ns (text number chars next) = AreRead t ns next
AreRead t ns (element number name bindings attributes children next) =
    IsRead t ns number name bindings attributes children × AreRead t ns children × AreRead t ns next

-- what an element binds, each prefix with the number of its namespace: the last is the latest
abbrev pub own_scope : Nodes → ℕ → List (List ℕ × ℕ)
own_scope ns n = reverse (map (λ (b : NameBinding). (b.prefix, b.namespace)) (bindings_at ns n))

abbrev pub outer_scope : (ℕ → List (List ℕ × ℕ)) → Option ℕ → List (List ℕ × ℕ)
outer_scope scope None = first_scope
outer_scope scope (Some p) = scope p

-- with what the elements around it bind, so many levels upwards
unfoldable pub scope_upto : Nodes → ℕ → ℕ → List (List ℕ × ℕ)
scope_upto ns zero n = own_scope ns n ++ first_scope
scope_upto ns (suc levels) n = own_scope ns n ++ outer_scope (scope_upto ns levels) (parent_at ns n)

-- the scope in the element of a number (Namespaces in XML 1.0, 6.1)
abbrev pub scope_at : Nodes → ℕ → List (List ℕ × ℕ)
scope_at ns n = scope_upto ns (depth_by (node ns n)) n
