-- The numbers of lists, and the top of each list's tree.
use Rattle.std.specs.Prelude.{◌≡◌, ◌≢◌, ◌⊎◌, ℕ, ◌^◌, ◌<◌, List, [], ◌∷◌, length, Option, Some, None, slice_index_or}
use Rattle.leaf_trees.specs.declared.node.Node.{Node}
use Rattle.leaf_trees.specs.Tree.{Tree, IsItemAt}
use Rattle.leaf_trees.specs.Arena.{IsTreeOf}
use Rattle.child_trees.specs.declared.tops.Slot.{Slot}
use Rattle.child_trees.specs.declared.tops.Slot.TheVariants.{Taken, Free}

-- what a list has: the top of its tree, or none where it is empty
abbrev pub Top : Type 0
Top = Option ℕ

-- what the number stands for, if it is a list's
abbrev pub top_of : Slot → Option Top
top_of (Taken top) = Some top
top_of (Free next) = None

abbrev pub slot_at : List Slot → ℕ → Slot
slot_at ss q = slice_index_or ss q (Free None)

-- the top of a list, if the number is a list's
abbrev pub top_at : List (Option Top) → ℕ → Option Top
top_at tops q = slice_index_or tops q None

-- the number is a list's
abbrev pub IsTaken : List (Option Top) → ℕ → Type 0
IsTaken tops q = (top : Top) × (top_at tops q ≡ Some top)

-- the number now stands for this, and each other number for what it did
pub record Writes (old new : List (Option Top)) (q : ℕ) (top : Option Top) : Type 0 where
  pub changed : top_at new q ≡ top
  pub others : (p : ℕ) → p ≢ q → top_at new p ≡ top_at old p

-- the number is one of these
abbrev pub IsIn : ℕ → List ℕ → Type 0
IsIn q [] = ⊥
IsIn q (x ∷ xs) = (q ≡ x) ⊎ IsIn q xs

-- the number is free, and names this as the next free one
pub record IsLink (ss : List Slot) (q : ℕ) (next : Option ℕ) : Type 0 where
  pub within : q < length ss
  pub slot : slot_at ss q ≡ Free next

-- these numbers are free from the first on, each once, and each names the next
abbrev pub IsChain : List Slot → Option ℕ → List ℕ → Type 0
IsChain ss first [] = first ≡ None
IsChain ss first (q ∷ qs) = (first ≡ Some q) × ¬ IsIn q qs × ((next : Option ℕ) × IsLink ss q next × IsChain ss next qs)

-- the free numbers hang together
pub record AreLinked (ss : List Slot) (free : Option ℕ) : Type 0 where
  pub chain : List ℕ
  pub linked : IsChain ss free chain
  pub few : length ss < 2 ^ 32

-- the item is at this place of the tree of this list
pub record LiesIn (ns : List Node) (tops : List (Option Top)) (list top place : ℕ) (t : Tree) (item : ℕ) : Type 0 where
  pub tree : IsTreeOf ns list top t
  pub top_is : top_at tops list ≡ Some (Some top)
  pub at : IsItemAt t place item
