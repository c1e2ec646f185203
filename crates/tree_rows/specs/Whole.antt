-- What every tree of a document is.
use Rattle.std.specs.Prelude.{◌≡◌, ℕ, ◌+◌, ◌≤◌, ◌<◌, List, [], ◌∷◌, Bool, false, ◌==◌, ◌||◌, length, Option, Some, None, if◌then◌else◌}
use Rattle.std.specs.List.{list_any}
use Rattle.std.specs.Str.{bytes_eq}
use Rattle.tree_rows.specs.Forest.{Forest, none, text, element, Document, count, deepest_of}
use Rattle.tree_rows.specs.Naming.{same_name}
use Rattle.tree_rows.specs.declared.limits.TheConstants.{MAX_ATTRIBUTES, MAX_DEPTH, MAX_NODES}
use Rattle.tree_rows.specs.declared.name.Expanded.{Expanded}
use Rattle.tree_rows.specs.declared.row.Attribute.{Attribute}
use Rattle.tree_rows.specs.declared.row.Binding.{Binding}

-- two bindings have one prefix
abbrev pub repeats_prefix : List Binding → Bool
repeats_prefix [] = false
repeats_prefix (b ∷ more) = list_any (λ other. bytes_eq b.prefix other.prefix) more || repeats_prefix more

-- two attributes have one expanded name (Namespaces in XML 1.0, 6.3)
abbrev pub repeats_name : List Attribute → Bool
repeats_name [] = false
repeats_name (a ∷ more) = list_any (λ other. same_name a.name other.name) more || repeats_name more

-- the absent namespace, or one by its name, which is not empty (Namespaces in XML 1.0, 6.2)
abbrev pub IsNamespace : Option (List ℕ) → Type 0
IsNamespace None = Unit {0}
IsNamespace (Some name) = 0 < length name

abbrev pub AreNamespaces : List Attribute → Type 0
AreNamespaces [] = Unit {0}
AreNamespaces (a ∷ more) = IsNamespace a.name.namespace × AreNamespaces more

-- the names and prefixes of an element: those of its attributes differ, and so do those of its bindings; there are at most 256
-- of both together
pub record IsNamed (name : Expanded) (bindings : List Binding) (attributes : List Attribute) : Type 0 where
  pub namespace : IsNamespace name.namespace
  pub namespaces : AreNamespaces attributes
  pub prefixes : repeats_prefix bindings ≡ false
  pub names : repeats_name attributes ≡ false
  pub few : length attributes + length bindings ≤ MAX_ATTRIBUTES

-- a number that a node may have: it is above 0 and below the next free one
abbrev pub IsNumber : ℕ → ℕ → Type 0
IsNumber free number = (0 < number) × (number < free)

-- each node has such a number, and each element its names and prefixes
abbrev pub AreNodes : ℕ → Forest → Type 0
AreNodes free none = Unit {0}
AreNodes free (text number chars next) = IsNumber free number × AreNodes free next
AreNodes free (element number name bindings attributes children next) =
    IsNumber free number × IsNamed name bindings attributes × AreNodes free children × AreNodes free next

-- how many nodes have the number
abbrev pub times : ℕ → Forest → ℕ
times key none = 0
times key (text number chars next) = (if number == key then 1 else 0) + times key next
times key (element number name bindings attributes children next) =
    (if number == key then 1 else 0) + (times key children + times key next)

-- one element, the root, has the number 1, and nothing stands beside it
abbrev pub HasRoot : Forest → Type 0
HasRoot none = ⊥
HasRoot (text number chars next) = ⊥
HasRoot (element number name bindings attributes children next) = (number ≡ 1) × (next ≡ none)

-- a document's tree: one root, numbers of which no two nodes have one, and the limits on nodes and on depth
pub record IsTree (d : Document) : Type 0 where
  pub root : HasRoot d.forest
  pub nodes : AreNodes d.next_free d.forest
  pub differ : (key : ℕ) → times key d.forest ≤ 1
  pub few : count d.forest ≤ MAX_NODES
  pub shallow : deepest_of 1 d.forest ≤ MAX_DEPTH
