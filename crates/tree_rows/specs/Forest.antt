-- Trees, as what begins at a place among siblings: nothing, or a node, what is below it, and what comes next.
use Rattle.std.specs.Prelude.{◌≡◌, ℕ, ◌+◌, List, max}
use Rattle.tree_rows.specs.declared.name.Expanded.{Expanded}
use Rattle.tree_rows.specs.declared.row.Attribute.{Attribute}
use Rattle.tree_rows.specs.declared.row.Binding.{Binding}

pub data Forest : Type 0 where
  none : Forest
  text : (number : ℕ) (chars : List ℕ) (next : Forest) → Forest
  element : (number : ℕ) (name : Expanded) (bindings : List Binding) (attributes : List Attribute) (children : Forest) (next : Forest) → Forest

-- a document's tree, and the number that its next new node gets
pub record Document : Type 0 where
  pub forest : Forest
  pub next_free : ℕ

-- how many nodes there are
abbrev pub count : Forest → ℕ
count none = 0
count (text number chars next) = 1 + count next
count (element number name bindings attributes children next) = 1 + (count children + count next)

-- the depth of the deepest element, where the siblings have this depth; 0 where there is none
abbrev pub deepest_of : ℕ → Forest → ℕ
deepest_of depth none = 0
deepest_of depth (text number chars next) = deepest_of depth next
deepest_of depth (element number name bindings attributes children next) = max depth (max (deepest_of (depth + 1) children) (deepest_of depth next))

-- the nodes have the numbers from this one on, in document order
abbrev pub numbered : ℕ → Forest → Type 0
numbered free none = Unit {0}
numbered free (text number chars next) = (number ≡ free) × numbered (free + 1) next
numbered free (element number name bindings attributes children next) =
    (number ≡ free) × numbered (free + 1) children × numbered (free + 1 + count children) next
