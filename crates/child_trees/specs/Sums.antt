-- Sums at the forks of trees: at each fork the map is the left side's and then the right side's.
use Rattle.std.specs.Prelude.{◌≡◌, ◌⊎◌, ℕ, ◌+◌, ◌-◌, ◌*◌, ◌<◌, ◌≤◌, nat_lt, MatchBool, List, length, map}
use Rattle.leaf_trees.specs.declared.node.Node.{Node}
use Rattle.leaf_trees.specs.Tree.{Item, Tree, leaf, fork, root, size, height, leaves, Has}
use Rattle.leaf_trees.specs.Arena.{HasTree}
use Rattle.child_trees.specs.Cells.{CellMaps, map_at}
use Rattle.child_trees.specs.Lists.{Entry}

-- the entry of a leaf, where each node has a map
abbrev pub entry_of : {Map : Type 0} → (ℕ → Map) → Item → Entry Map
entry_of f x = record { item = x.number; element = x.element; marked = x.marked; act = f x.number }

-- the entries of a tree's leaves
abbrev pub entries : {Map : Type 0} → (ℕ → Map) → Tree → List (Entry Map)
entries f t = map (entry_of f) (leaves t)

-- the node is a fork of the tree
abbrev pub IsForkIn : Tree → ℕ → Type 0
IsForkIn (leaf x) j = ⊥
IsForkIn (fork i l r) j = (j ≡ i) ⊎ (IsForkIn l j ⊎ IsForkIn r j)

-- the map of each fork is the sum of its sides' maps
abbrev pub AreSums : {Map : Type 0} → (Map → Map → Map) → (ℕ → Map) → Tree → Type 0
AreSums join f (leaf x) = Unit {0}
AreSums join f (fork i l r) = (f i ≡ join (f (root l)) (f (root r))) × AreSums join f l × AreSums join f r

-- so it is below the top
abbrev pub AreSidesSums : {Map : Type 0} → (Map → Map → Map) → (ℕ → Map) → Tree → Type 0
AreSidesSums join f (leaf x) = Unit {0}
AreSidesSums join f (fork i l r) = AreSums join f l × AreSums join f r

-- so it is but for the way down to the leaf at this place, and for the forks beside that way
abbrev pub AreSumsBut : {Map : Type 0} → (Map → Map → Map) → (ℕ → Map) → ℕ → Tree → Type 0
AreSumsBut join f k (leaf x) = Unit {0}
AreSumsBut join f k (fork i l r) =
    MatchBool (nat_lt k (size l)) (AreSumsBut join f k l × AreSidesSums join f r) (AreSidesSums join f l × AreSumsBut join f (k - size l) r)

-- the nodes hold a tree below this top, and each of its nodes has a cell
pub record HasCells (n : ℕ) (ns : List Node) (top : ℕ) (t : Tree) : Type 0 where
  pub has : HasTree ns top t
  pub within : (j : ℕ) → Has t j → j < n

-- and the cells of its forks are sums
pub record HasSums {Shape Map : Type 0} (unit : Shape → Map) (join : Map → Map → Map) (v : CellMaps Shape Map) (ns : List Node) (top : ℕ) (t : Tree) : Type 0 where
  pub cells : HasCells (length v.maps) ns top t
  pub sums : AreSums join (map_at unit v) t

-- no map changes but those of a tree's forks
pub record KeepsMaps {Shape Map : Type 0} (unit : Shape → Map) (old new : CellMaps Shape Map) (t : Tree) : Type 0 where
  pub same : (j : ℕ) → ¬ IsForkIn t j → map_at unit new j ≡ map_at unit old j

-- neither the shape nor the number of slots changes
pub record SameSlots {Shape Map : Type 0} (old new : CellMaps Shape Map) : Type 0 where
  pub size : length new.maps ≡ length old.maps
  pub shape : new.shape ≡ old.shape

-- so many steps are spent on the leaves from a place up to another: none where there are none, one where they are all, and at
-- most two a level
pub record TakesFew (t : Tree) (from to spent : ℕ) : Type 0 where
  pub none : ((to ≤ from) ⊎ (size t ≤ from)) → spent ≡ 0
  pub whole : from ≡ 0 → size t ≤ to → spent ≤ 1
  pub ends : ((from ≡ 0) ⊎ (size t ≤ to)) → spent ≤ height t + 1
  pub all : spent ≤ 2 * height t + 1
