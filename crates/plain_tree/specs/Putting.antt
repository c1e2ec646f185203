-- A tree with a node, an attribute or a binding more.
use Rattle.std.specs.Prelude.{ℕ, List, [], ◌∷◌, ◌++◌, Bool, Option, Some, None}
use Rattle.std.specs.List.{list_any}
use Rattle.std.specs.Str.{bytes_eq}
use Rattle.tree_rows.specs.Forest.{Forest, none, text, element, Document}
use Rattle.tree_rows.specs.Naming.{same_name}
use Rattle.tree_rows.specs.declared.name.Expanded.{Expanded}
use Rattle.tree_rows.specs.declared.row.Attribute.{Attribute}
use Rattle.tree_rows.specs.declared.row.Binding.{Binding}
use Rattle.tree_edits.specs.Edits.{append, Found, found, replaced}
use Rattle.plain_tree.specs.Nodes.{Node, node_at}

-- an element with new siblings behind its last child
abbrev pub with_last : Forest → Forest → Forest
with_last new none = none
with_last new (text number chars next) = text number chars next
with_last new (element number name bindings attributes children next) = element number name bindings attributes (append children new) next

-- an element with an attribute more, the last
abbrev pub with_attribute : Attribute → Forest → Forest
with_attribute new none = none
with_attribute new (text number chars next) = text number chars next
with_attribute new (element number name bindings attributes children next) = element number name bindings (attributes ++ new ∷ []) children next

-- an element with a binding more, the last
abbrev pub with_binding : Binding → Forest → Forest
with_binding new none = none
with_binding new (text number chars next) = text number chars next
with_binding new (element number name bindings attributes children next) = element number name (bindings ++ new ∷ []) attributes children next

-- the document with the node of this number changed; its next free number stays
abbrev pub changed : ℕ → (Forest → Forest) → Document → Document
changed key change d = record d { forest = replaced key change d.forest }

-- the depth of the node of this number, where the root has depth 1; 0 where there is no such node
abbrev pub depth_by : Option Found → ℕ
depth_by None = 0
depth_by (Some it) = it.depth

abbrev pub depth_of : ℕ → Forest → ℕ
depth_of key f = depth_by (found key 1 f)

-- the attributes of the node of this number
abbrev pub attributes_by : Option Node → List Attribute
attributes_by None = []
attributes_by (Some node) = node.attributes

abbrev pub attributes_of : ℕ → Forest → List Attribute
attributes_of key f = attributes_by (node_at key f)

-- the bindings of the node of this number
abbrev pub bindings_by : Option Node → List Binding
bindings_by None = []
bindings_by (Some node) = node.bindings

abbrev pub bindings_of : ℕ → Forest → List Binding
bindings_of key f = bindings_by (node_at key f)

-- an attribute has the name
abbrev pub has_name : Expanded → List Attribute → Bool
has_name name attributes = list_any (λ attribute. same_name attribute.name name) attributes

-- a binding has the prefix
abbrev pub has_prefix : List ℕ → List Binding → Bool
has_prefix prefix bindings = list_any (λ binding. bytes_eq binding.prefix prefix) bindings
