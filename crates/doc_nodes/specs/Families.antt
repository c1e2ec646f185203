-- New children of a node that are put all at once: their entries in its list, their slots, and the lists for their own children.
use Rattle.std.specs.Prelude.{◌≡◌, ◌≢◌, ℕ, ◌+◌, ◌<◌, List, [], ◌∷◌, ◌++◌, length, map, Option, Some, None}
use Rattle.child_trees.specs.declared.leaf.Leaf.{Leaf}
use Rattle.child_trees.specs.Lists.{Entry, get, IsLive, AreEntries, Updates, items}
use Rattle.doc_nodes.specs.declared.content.NewNode.{NewNode}
use Rattle.doc_nodes.specs.declared.firsts.First.{First}
use Rattle.doc_nodes.specs.declared.firsts.Child.{Child}
use Rattle.doc_nodes.specs.declared.families.Family.{Family}
use Rattle.doc_nodes.specs.declared.links.Hung.{Hung}
use Rattle.doc_nodes.specs.declared.slots.Slot.{Slot}
use Rattle.doc_nodes.specs.Firsts.{no_child, firsts_of}
use Rattle.doc_nodes.specs.Nodes.{is_element, Has, Distinct}
use Rattle.doc_nodes.specs.Slots.{slot, Writes}
use Rattle.doc_nodes.specs.Linked.{Orders, KeepsLists}

abbrev pub child_in : NewNode → Child
child_in c = record { number = c.number; is_element = is_element c.content }

abbrev pub leaf_of : NewNode → Leaf Child
leaf_of c = record { letter = Some (child_in c); element = is_element c.content; marked = is_element c.content }

-- the numbers of these were given out, and no slot has them
abbrev pub AreUnused : List (Option Slot) → List NewNode → Type 0
AreUnused ss cs = (c : NewNode) → Has c cs → (slot ss c.number ≡ None) × (c.number < length ss)

-- these lists are empty
abbrev pub AreEmpty : Orders → List Hung → Type 0
AreEmpty w hung = (h : Hung) → Has h hung → get w h.list ≡ Some []

-- these lists are new and empty, and no two are one
pub record AreOwn (v w : Orders) (hung : List Hung) : Type 0 where
  pub own : (h : Hung) → Has h hung → (get w h.list ≡ Some []) × ¬ IsLive v h.list
  pub apart : Distinct (map (λ h. h.list) hung)

-- there is a new empty list for one item more
pub record AddsList (v w : Orders) (old new : List Hung) (item : ℕ) : Type 0 where
  pub list : ℕ
  pub fresh : ¬ IsLive v list
  pub made : Updates v w list (Some [])
  pub more : new ≡ old ++ record { list = list; item = item } ∷ []

-- for each of these items there is a new empty list
pub record OwnLists (v w : Orders) (items : List ℕ) (hung : List Hung) : Type 0 where
  pub items_are : map (λ h. h.item) hung ≡ items
  pub lists : AreOwn v w hung

-- there is a new list of these children, and a new empty one for each of them
pub record HangsAll (v w : Orders) (children : List NewNode) (family : Family) : Type 0 where
  pub list : List (Entry First)
  pub is : get w family.list ≡ Some list
  pub are : AreEntries no_child firsts_of (map leaf_of children) list
  pub fresh : ¬ IsLive v family.list
  pub items_are : map (λ h. h.item) family.hung.items ≡ items list
  pub own : (h : Hung) → Has h family.hung.items → (get w h.list ≡ Some []) × ¬ IsLive v h.list × (h.list ≢ family.list)
  pub apart : Distinct (map (λ h. h.list) family.hung.items)
  pub keeps : KeepsLists v w

-- the slot of a new child of p
abbrev pub slot_of : ℕ → ℕ → NewNode → Hung → Slot
slot_of p depth c h = record { number = c.number; hook = Some (record { parent = p; item = h.item }); depth = depth; list = h.list; count = 0; content = c.content }

-- the slots of new children of p
abbrev pub new_slots : ℕ → ℕ → List NewNode → List Hung → List Slot
new_slots p depth [] hs = []
new_slots p depth (c ∷ cs) [] = []
new_slots p depth (c ∷ cs) (h ∷ hs) = slot_of p depth c h ∷ new_slots p depth cs hs

-- these slots were put, from the last to the first
abbrev pub PutsSlots : List (Option Slot) → List (Option Slot) → List Slot → Type 0
PutsSlots old new [] = new ≡ old
PutsSlots old new (s ∷ more) = (mid : List (Option Slot)) × PutsSlots old mid more × Writes mid new s.number (Some s)

-- these children were put below p, which has the list of them now and not the one that it had
pub record Settles (old new : List (Option Slot)) (v w : Orders) (p : ℕ) (s : Slot) (children : List NewNode) (family : Family) : Type 0 where
  pub mid : List (Option Slot)
  pub puts : PutsSlots old mid (new_slots p (s.depth + 1) children family.hung.items)
  pub parent : (t : Slot) → slot mid p ≡ Some t → Writes mid new p (Some (record t { list = family.list; count = length children }))
  pub drops : Updates v w s.list None
