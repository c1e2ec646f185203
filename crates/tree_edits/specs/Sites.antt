-- Where the nodes of a tree stand, and what they hold.
use Rattle.std.specs.Prelude.{ℕ, ◌+◌, List, [], ◌∷◌, ◌==◌, Option, Some, None, if◌then◌else◌}
use Rattle.tree_rows.specs.Forest.{Forest, none, text, element}
use Rattle.tree_rows.specs.Naming.{same_name}
use Rattle.tree_rows.specs.declared.name.Expanded.{Expanded}
use Rattle.tree_rows.specs.declared.row.Attribute.{Attribute}
use Rattle.tree_edits.specs.Edits.{Found, found, has}

-- where a node stands: its parent, and its place among the children of that one, counted from 0
pub record Site : Type 0 where
  pub parent : ℕ
  pub place : ℕ

-- where the node of this number stands, where the siblings are children of this parent, the first of them at this place
abbrev pub site_in : ℕ → ℕ → ℕ → Forest → Site
site_in key parent place none = record { parent = parent; place = place }
site_in key parent place (text number chars next) = if number == key then record { parent = parent; place = place } else site_in key parent (place + 1) next
site_in key parent place (element number name bindings attributes children next) =
    if number == key then record { parent = parent; place = place }
    else (if has key children then site_in key number 0 children else site_in key parent (place + 1) next)

-- where the node of this number stands in a document; no node has the number 0, which stands for the parent of the root
abbrev pub site_of : ℕ → Forest → Site
site_of key f = site_in key 0 0 f

-- the node of this number, with all that is below it
abbrev pub node_by : Option Found → Forest
node_by None = none
node_by (Some it) = it.node

abbrev pub node_of : ℕ → Forest → Forest
node_of key f = node_by (found key 1 f)

-- the number of the first of the siblings
abbrev pub first_number : Forest → ℕ
first_number none = 0
first_number (text number chars next) = number
first_number (element number name bindings attributes children next) = number

-- the name of an element
abbrev pub name_of : Forest → Expanded
name_of none = record { namespace = None; local = [] }
name_of (text number chars next) = record { namespace = None; local = [] }
name_of (element number name bindings attributes children next) = name

-- the characters of a text
abbrev pub chars_of : Forest → List ℕ
chars_of none = []
chars_of (text number chars next) = chars
chars_of (element number name bindings attributes children next) = []

-- the value of the attribute of this name
abbrev pub value_of : Expanded → List Attribute → Option (List ℕ)
value_of name [] = None
value_of name (a ∷ more) = if same_name a.name name then Some a.value else value_of name more

-- the place of the attribute of this name, and behind the others where there is none
abbrev pub place_of : Expanded → List Attribute → ℕ
place_of name [] = 0
place_of name (a ∷ more) = if same_name a.name name then 0 else place_of name more + 1
