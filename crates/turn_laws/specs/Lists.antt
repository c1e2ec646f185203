-- The list of a node's children: their numbers, and the names of those that are elements.
use Rattle.std.specs.Prelude.{ℕ, List, [], ◌∷◌, ◌==◌, Option, Some, None, if◌then◌else◌}
use Rattle.std.specs.Option.{option_or}
use Rattle.tree_rows.specs.Forest.{Forest, none, text, element}
use Rattle.tree_rows.specs.declared.name.Expanded.{Expanded}

pub record Child : Type 0 where
  pub number : ℕ
  pub name : Option Expanded

abbrev pub child : ℕ → Option Expanded → Child
child number name = record { number = number; name = name }

-- siblings as such a list
abbrev pub listed : Forest → List Child
listed none = []
listed (text number chars next) = child number None ∷ listed next
listed (element number name bindings attributes children next) = child number (Some name) ∷ listed next

-- the list of the children of the element of this number, where there is one
abbrev pub list_at : ℕ → Forest → Option (List Child)
list_at key none = None
list_at key (text number chars next) = list_at key next
list_at key (element number name bindings attributes children next) =
    if number == key then Some (listed children) else option_or (list_at key children) (list_at key next)
