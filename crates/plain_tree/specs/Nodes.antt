-- The nodes of a tree by their numbers, and their parts by their places.
use Rattle.std.specs.Prelude.{ℕ, ◌-◌, List, [], ◌==◌, slice_get, Option, Some, None, if◌then◌else◌}
use Rattle.std.specs.Option.{option_and_then}
use Rattle.tree_rows.specs.Forest.{Forest, none, text, element}
use Rattle.tree_rows.specs.declared.name.Expanded.{Expanded}
use Rattle.tree_rows.specs.declared.row.Attribute.{Attribute}
use Rattle.tree_rows.specs.declared.row.Binding.{Binding}
use Rattle.tree_rows.specs.declared.row.Content.{Content}
use Rattle.tree_rows.specs.declared.row.Content.TheVariants as contents

-- a node by what it is, its bindings and attributes, and what is below it
pub record Node : Type 0 where
  pub content : Content
  pub bindings : List Binding
  pub attributes : List Attribute
  pub children : Forest

abbrev pub first_of : Option Node → Option Node → Option Node
first_of None later = later
first_of (Some node) later = Some node

-- the node of this number
abbrev pub node_at : ℕ → Forest → Option Node
node_at key none = None
node_at key (text number chars next) =
    if number == key then Some (record { content = contents.Chars chars; bindings = []; attributes = []; children = none }) else node_at key next
node_at key (element number name bindings attributes children next) =
    if number == key then Some (record { content = contents.Element name; bindings = bindings; attributes = attributes; children = children })
    else first_of (node_at key children) (node_at key next)

-- the name of an element
abbrev pub name_by : Content → Option Expanded
name_by (contents.Element name) = Some name
name_by (contents.Chars chars) = None

abbrev pub name_at : ℕ → Forest → Option Expanded
name_at key f = option_and_then (λ node. name_by node.content) (node_at key f)

-- the characters of a text
abbrev pub chars_by : Content → Option (List ℕ)
chars_by (contents.Element name) = None
chars_by (contents.Chars chars) = Some chars

abbrev pub chars_at : ℕ → Forest → Option (List ℕ)
chars_at key f = option_and_then (λ node. chars_by node.content) (node_at key f)

-- the attribute and the binding of this place, counted from 0
abbrev pub attribute_at : ℕ → ℕ → Forest → Option Attribute
attribute_at key place f = option_and_then (λ node. slice_get node.attributes place) (node_at key f)

abbrev pub binding_at : ℕ → ℕ → Forest → Option Binding
binding_at key place f = option_and_then (λ node. slice_get node.bindings place) (node_at key f)

-- the number of the sibling of this place, counted from 0
abbrev pub number_at : ℕ → Forest → Option ℕ
number_at place none = None
number_at place (text number chars next) = if place == 0 then Some number else number_at (place - 1) next
number_at place (element number name bindings attributes children next) = if place == 0 then Some number else number_at (place - 1) next

-- the number of the child of this place, elements and texts counted
abbrev pub child_at : ℕ → ℕ → Forest → Option ℕ
child_at key place f = option_and_then (λ node. number_at place node.children) (node_at key f)
