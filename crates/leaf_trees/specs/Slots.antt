-- What the taking and giving of slots change.
use Rattle.std.specs.Prelude.{◌≡◌, ◌≢◌, ℕ, ◌+◌, ◌*◌, ◌^◌, ◌≤◌, List, length, map}
use Rattle.leaf_trees.specs.declared.node.Flags.{Flags}
use Rattle.leaf_trees.specs.Tree.{Tree, size, height, leaves, flags_of, Has, IsAvl}
use Rattle.leaf_trees.specs.Arena.{at, IsTaken, HasTree, IsFreeSlot}
use Rattle.leaf_trees.specs.Change.{Slots}

-- a free slot is taken
pub record Takes (old new : Slots) (slot : ℕ) : Type 0 where
  pub free : IsFreeSlot old.nodes slot
  pub taken : IsTaken (at new.nodes slot)
  pub spare : new.spare + 1 ≡ old.spare
  pub len : length new.nodes ≡ length old.nodes
  pub others : (j : ℕ) → j ≢ slot → at new.nodes j ≡ at old.nodes j

-- a slot is free again
pub record Gives (old new : Slots) (slot : ℕ) : Type 0 where
  pub free : ¬ IsTaken (at new.nodes slot)
  pub spare : new.spare ≡ old.spare + 1
  pub len : length new.nodes ≡ length old.nodes
  pub others : (j : ℕ) → j ≢ slot → at new.nodes j ≡ at old.nodes j

-- free slots are now a balanced tree of leaves with these flags, as low as can be
pub record Builds (old new : Slots) (top : ℕ) (flags : List Flags) : Type 0 where
  pub tree : Tree
  pub has : HasTree new.nodes top tree
  pub avl : IsAvl tree
  pub low : (k : ℕ) → length flags ≤ 2 ^ k → height tree ≤ k
  pub flags_are : map flags_of (leaves tree) ≡ flags
  pub free : (j : ℕ) → Has tree j → IsFreeSlot old.nodes j
  pub taken : (j : ℕ) → Has tree j → IsTaken (at new.nodes j)
  pub spare : new.spare + 2 * length flags ≡ old.spare + 1
  pub len : length new.nodes ≡ length old.nodes
  pub others : (j : ℕ) → IsTaken (at old.nodes j) → at new.nodes j ≡ at old.nodes j

-- the slots of a tree are free
pub record Frees (old new : Slots) (t : Tree) : Type 0 where
  pub free : (j : ℕ) → Has t j → ¬ IsTaken (at new.nodes j)
  pub spare : new.spare + 1 ≡ old.spare + 2 * size t
  pub len : length new.nodes ≡ length old.nodes
  pub others : (j : ℕ) → ¬ Has t j → at new.nodes j ≡ at old.nodes j
