-- What an edit changes of an element: its name and its attributes.
use Rattle.std.specs.Prelude.{ℕ, ◌+◌, List, [], ◌∷◌, Bool, ◌&&◌, not, nat_le, length, if◌then◌else◌}
use Rattle.std.specs.List.{list_any}
use Rattle.tree_rows.specs.Forest.{Forest, none, text, element}
use Rattle.tree_rows.specs.Naming.{same_name}
use Rattle.tree_rows.specs.declared.limits.TheConstants.{MAX_ATTRIBUTES}
use Rattle.tree_rows.specs.declared.name.Expanded.{Expanded}
use Rattle.tree_rows.specs.declared.row.Attribute.{Attribute}
use Rattle.tree_rows.specs.declared.row.Binding.{Binding}

-- an element has another name
abbrev pub with_name : Expanded → Forest → Forest
with_name new none = none
with_name new (text number chars next) = text number chars next
with_name new (element number name bindings attributes children next) = element number new bindings attributes children next

-- an attribute has the name
abbrev pub has_name : Expanded → List Attribute → Bool
has_name name attributes = list_any (λ a. same_name a.name name) attributes

-- the attribute of the name has this value, in its place; where there is none, there is one more, the last
abbrev pub set_in : Expanded → List ℕ → List Attribute → List Attribute
set_in name value [] = record { name = name; value = value } ∷ []
set_in name value (a ∷ more) = if same_name a.name name then record { name = name; value = value } ∷ more else a ∷ set_in name value more

-- the attribute of the name is gone
abbrev pub unset_in : Expanded → List Attribute → List Attribute
unset_in name [] = []
unset_in name (a ∷ more) = if same_name a.name name then more else a ∷ unset_in name more

-- an attribute of the name would be one more than an element may have, its bindings counted
abbrev pub has_no_room : Expanded → List Binding → List Attribute → Bool
has_no_room name bindings attributes = not (has_name name attributes) && nat_le MAX_ATTRIBUTES (length attributes + length bindings)

-- an element has other attributes
abbrev pub with_attributes : (List Attribute → List Attribute) → Forest → Forest
with_attributes change none = none
with_attributes change (text number chars next) = text number chars next
with_attributes change (element number name bindings attributes children next) = element number name bindings (change attributes) children next
