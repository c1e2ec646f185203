-- How nodes, the maps of their cells, and the tops of lists stand for lists.
use Rattle.std.specs.Prelude.{◌≡◌, ℕ, zero, suc, ◌+◌, ◌<◌, ◌≤◌, ◌==◌, if◌then◌else◌, List, [], ◌∷◌, ◌++◌, length, map, sum_by, slice_index, Option, Some, None}
use Rattle.std.specs.Option.{option_map}
use Rattle.leaf_trees.specs.declared.node.Node.{Node}
use Rattle.leaf_trees.specs.Tree.{Item, Tree, Has}
use Rattle.leaf_trees.specs.Arena.{at, IsTreeOf, IsFreeSlot}
use Rattle.child_trees.specs.Cells.{CellMaps, map_at}
use Rattle.child_trees.specs.Lists.{Entry, items, list_slots}
use Rattle.child_trees.specs.Sums.{entry_of, entries, AreSums}
use Rattle.child_trees.specs.Tops.{Top, top_at}

-- the leaf in a slot, as its node tells
abbrev pub leaf_at : List Node → ℕ → Item
leaf_at ns j = record { number = j; element = (at ns j).counts.elements == 1; marked = (at ns j).counts.marked == 1 }

-- the leaves below a node, found in this many levels
abbrev pub leaves_below : ℕ → List Node → ℕ → List Item
leaves_below zero ns i = []
leaves_below (suc levels) ns i =
    if (at ns i).height == 0 then leaf_at ns i ∷ [] else leaves_below levels ns (at ns i).left ++ leaves_below levels ns (at ns i).right

-- the list with this top
abbrev pub list_of : {Map : Type 0} → (ℕ → Map) → List Node → Top → List (Entry Map)
list_of f ns None = []
list_of f ns (Some top) = map (entry_of f) (leaves_below ((at ns top).height + 1) ns top)

abbrev pub lists_of : {Map : Type 0} → (ℕ → Map) → List Node → List (Option Top) → List (Option (List (Entry Map)))
lists_of f ns tops = map (option_map (list_of f ns)) tops

-- the items of these entries were free slots, and no two are one
pub record AreOfFree {Map : Type 0} (ns : List Node) (xs : List (Entry Map)) : Type 0 where
  pub free : (p : ℕ) → p < length xs → IsFreeSlot ns (slice_index (items xs) p)
  pub once : (p k : ℕ) → p < length xs → k < length xs → slice_index (items xs) p ≡ slice_index (items xs) k → p ≡ k

module _ {Shape Map : Type 0} (unit : Shape → Map) (join : Map → Map → Map) where
  -- the nodes hold the tree of this list, each of its nodes has a cell, and those of its forks are sums
  pub record IsKept (v : CellMaps Shape Map) (ns : List Node) (list top : ℕ) (t : Tree) : Type 0 where
    pub tree : IsTreeOf ns list top t
    pub within : (j : ℕ) → Has t j → j < length v.maps
    pub sums : AreSums join (map_at unit v) t

  -- and its leaves are these
  pub record HasList (v : CellMaps Shape Map) (ns : List Node) (list top : ℕ) (xs : List (Entry Map)) : Type 0 where
    pub now : Tree
    pub kept : IsKept v ns list top now
    pub entries_are : entries (map_at unit v) now ≡ xs

  -- all lists but these stay as they are
  pub record KeepsLists (v : CellMaps Shape Map) (ns : List Node) (w : CellMaps Shape Map) (ms : List Node) (but : ℕ → Type 0) : Type 0 where
    pub kept : (p top : ℕ) (u : Tree) → ¬ but p → IsKept v ns p top u → IsKept w ms p top u
    pub same : (p top : ℕ) (u : Tree) → ¬ but p → IsKept v ns p top u → entries (map_at unit w) u ≡ entries (map_at unit v) u
    pub shape : w.shape ≡ v.shape

  -- so is the tree of each list that has leaves, and each slot has a cell
  pub record AreKept (v : CellMaps Shape Map) (ns : List Node) (tops : List (Option Top)) : Type 0 where
    pub kept : (q top : ℕ) → top_at tops q ≡ Some (Some top) → (t : Tree) × IsKept v ns q top t
    pub cells : length ns ≤ length v.maps

  -- and each slot that no list takes is free
  pub record IsSound (v : CellMaps Shape Map) (ns : List Node) (spare : ℕ) (tops : List (Option Top)) : Type 0 where
    pub lists : AreKept v ns tops
    pub slots : length ns ≡ spare + sum_by list_slots (lists_of (map_at unit v) ns tops)
