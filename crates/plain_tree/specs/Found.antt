-- A table of names that has those of a document.
use Rattle.std.specs.Prelude.{ℕ, List, [], ◌∷◌, Option, None, Some, IsSome}
use Rattle.xs_names.specs.Names.{NameTable, space_number, name_number}
use Rattle.tree_rows.specs.Forest.{Forest, none, text, element}
use Rattle.tree_rows.specs.declared.name.Expanded.{Expanded}
use Rattle.tree_rows.specs.declared.row.Attribute.{Attribute}
use Rattle.tree_rows.specs.declared.row.Binding.{Binding}
use Rattle.plain_tree.specs.Numbers.{space_in}

-- the namespace has a number; the absent one has its number in every table
abbrev pub HasSpace : NameTable → Option (List ℕ) → Type 0
HasSpace t None = Unit {0}
HasSpace t (Some space) = IsSome (space_number t space)

-- the name has a number, and its namespace has one
pub record HasName (t : NameTable) (name : Expanded) : Type 0 where
  pub space : HasSpace t name.namespace
  pub number : IsSome (name_number t (space_in t name.namespace) name.local)

abbrev pub HasBindings : NameTable → List Binding → Type 0
HasBindings t [] = Unit {0}
HasBindings t (binding ∷ bindings) = IsSome (space_number t binding.namespace) × HasBindings t bindings

abbrev pub HasAttributes : NameTable → List Attribute → Type 0
HasAttributes t [] = Unit {0}
HasAttributes t (attribute ∷ attributes) = HasName t attribute.name × HasAttributes t attributes

-- the names of a start tag have numbers
pub record HasTag (t : NameTable) (name : Expanded) (bindings : List Binding) (attributes : List Attribute) : Type 0 where
  pub own : HasName t name
  pub spaces : HasBindings t bindings
  pub names : HasAttributes t attributes

-- the names of a document have numbers
abbrev pub HasNames : NameTable → Forest → Type 0
HasNames t none = Unit {0}
HasNames t (text number chars next) = HasNames t next
HasNames t (element number name bindings attributes children next) =
    HasTag t name bindings attributes × HasNames t children × HasNames t next
