-- What the slots of nodes and the lists of their children are to each other.
use Rattle.std.specs.Prelude.{◌≡◌, ◌≢◌, ℕ, ◌+◌, ◌^◌, ◌<◌, ◌≤◌, List, [], length, map, insert, remove, slice_index_or, Option, Some, None}
use Rattle.std.specs.Option.{option_map}
use Rattle.child_trees.specs.Lists.{Lists, Entry, get, IsLive}
use Rattle.doc_nodes.specs.declared.firsts.First.{First}
use Rattle.doc_nodes.specs.declared.firsts.Child.{Child}
use Rattle.doc_nodes.specs.declared.links.Hung.{Hung}
use Rattle.doc_nodes.specs.declared.slots.Slot.{Slot}
use Rattle.doc_nodes.specs.declared.slots.Hook.{Hook}
use Rattle.doc_nodes.specs.Firsts.{firsts_of}
use Rattle.doc_nodes.specs.Nodes.{Node, Nodes, is_element, Has, Distinct}
use Rattle.doc_nodes.specs.Slots.{slot}

abbrev pub Orders : Type 0
Orders = Lists (Unit {0}) First

abbrev pub list_or : Option (List (Entry First)) → List (Entry First)
list_or None = []
list_or (Some xs) = xs

-- the entries of a list
abbrev pub entries : Orders → ℕ → List (Entry First)
entries v q = list_or (get v q)

abbrev pub or_zero : Option ℕ → ℕ
or_zero None = 0
or_zero (Some n) = n

-- the child that an entry is of
abbrev pub number_of : Entry First → ℕ
number_of e = or_zero e.act.child

abbrev pub numbers : List (Entry First) → List ℕ
numbers es = map number_of es

-- the node of a slot
abbrev pub node_in : Orders → Slot → Node
node_in v s = record {
  parent = option_map (λ h. h.parent) s.hook;
  depth = s.depth;
  content = s.content;
  children = numbers (entries v s.list);
}

abbrev pub nodes_of : List (Option Slot) → Orders → Nodes
nodes_of ss v = map (option_map (node_in v)) ss

-- an entry in the list of a node is of a child that hangs there
pub record IsHung (ss : List (Option Slot)) (n : ℕ) (s : Slot) (e : Entry First) : Type 0 where
  pub number : ℕ
  pub child : Slot
  pub is : slot ss number ≡ Some child
  pub act : e.act ≡ firsts_of (record { number = number; is_element = is_element child.content })
  pub element : e.element ≡ is_element child.content
  pub marked : e.marked ≡ is_element child.content
  pub hook : child.hook ≡ Some (record { parent = n; item = e.item })
  pub below : child.depth ≡ s.depth + 1

-- the list of a node's children, and its length
pub record IsOwner (v : Orders) (s : Slot) : Type 0 where
  pub list : List (Entry First)
  pub is : get v s.list ≡ Some list
  pub count : s.count ≡ length list

-- a node's item lies in its parent's list
pub record Hangs (ss : List (Option Slot)) (v : Orders) (m : ℕ) (h : Hook) : Type 0 where
  pub parent : Slot
  pub is : slot ss h.parent ≡ Some parent
  pub entry : Entry First
  pub item : entry.item ≡ h.item
  pub child : number_of entry ≡ m
  pub has : Has entry (entries v parent.list)

pub record IsLinked (ss : List (Option Slot)) (v : Orders) : Type 0 where
  pub own : (n : ℕ) (s : Slot) → slot ss n ≡ Some s → s.number ≡ n
  pub owner : (n : ℕ) (s : Slot) → slot ss n ≡ Some s → IsOwner v s
  pub apart : (n m : ℕ) (s t : Slot) → slot ss n ≡ Some s → slot ss m ≡ Some t → s.list ≡ t.list → n ≡ m
  pub down : (n : ℕ) (s : Slot) (e : Entry First) → slot ss n ≡ Some s → Has e (entries v s.list) → IsHung ss n s e
  pub up : (m : ℕ) (c : Slot) (h : Hook) → slot ss m ≡ Some c → c.hook ≡ Some h → Hangs ss v m h
  pub once : (n : ℕ) (s : Slot) → slot ss n ≡ Some s → Distinct (numbers (entries v s.list))
  pub few : length ss < 2 ^ 32

-- the slots and the orders once a node c has become the child of p, whose slot is s, at a place; e is its entry
pub record Puts (ss : List (Option Slot)) (v : Orders) (ts : List (Option Slot)) (w : Orders) (p : ℕ) (s : Slot) (place c : ℕ) (new : Slot) (e : Entry First) : Type 0 where
  pub size : length ts ≡ length ss
  pub parent_was : slot ss p ≡ Some s
  pub parent_is : slot ts p ≡ Some (record s { count = s.count + 1 })
  pub free : slot ss c ≡ None
  pub here : slot ts c ≡ Some new
  pub others : (m : ℕ) → m ≢ p → m ≢ c → slot ts m ≡ slot ss m
  pub fresh : (m : ℕ) (t : Slot) → slot ss m ≡ Some t → t.list ≢ new.list
  pub empty : get w new.list ≡ Some []
  pub edited : get w s.list ≡ Some (insert (entries v s.list) place e)
  pub rest : (q : ℕ) → q ≢ s.list → q ≢ new.list → get w q ≡ get v q
  pub within : place ≤ length (entries v s.list)
  pub number : new.number ≡ c
  pub hook : new.hook ≡ Some (record { parent = p; item = e.item })
  pub below : new.depth ≡ s.depth + 1
  pub no_children : new.count ≡ 0
  pub act : e.act ≡ firsts_of (record { number = c; is_element = is_element new.content })
  pub element : e.element ≡ is_element new.content
  pub marked : e.marked ≡ is_element new.content

-- the slots and the orders once the node c, whose slot is old, has been taken from its place among the children of p
pub record Takes (ss : List (Option Slot)) (v : Orders) (ts : List (Option Slot)) (w : Orders) (p : ℕ) (s : Slot) (place c : ℕ) (old : Slot) (e : Entry First) : Type 0 where
  pub size : length ts ≡ length ss
  pub parent_was : slot ss p ≡ Some s
  pub parent_is : (t : Slot) × (slot ts p ≡ Some t) × (t ≡ record s { count = t.count }) × (t.count + 1 ≡ s.count)
  pub was : slot ss c ≡ Some old
  pub gone : slot ts c ≡ None
  pub others : (m : ℕ) → m ≢ p → m ≢ c → slot ts m ≡ slot ss m
  pub leaf : entries v old.list ≡ []
  pub child : number_of e ≡ c
  pub hook : old.hook ≡ Some (record { parent = p; item = e.item })
  pub within : place < length (entries v s.list)
  pub at : (d : Entry First) → slice_index_or (entries v s.list) place d ≡ e
  pub edited : get w s.list ≡ Some (remove (entries v s.list) place)
  pub rest : (q : ℕ) → q ≢ s.list → q ≢ old.list → get w q ≡ get v q

-- each list that was there is there still
abbrev pub KeepsLists : Orders → Orders → Type 0
KeepsLists v w = (q : ℕ) → IsLive v q → get w q ≡ get v q

-- the entry of a child under its item
abbrev pub entry_of : Child → ℕ → Entry First
entry_of child item = record { item = item; element = child.is_element; marked = child.is_element; act = firsts_of child }

-- a new list, which is empty, and an entry more at a place of another
pub record HangsMore (v w : Orders) (order place : ℕ) (child : Child) (hung : Hung) : Type 0 where
  pub fresh : ¬ IsLive v hung.list
  pub empty : get w hung.list ≡ Some []
  pub edited : get w order ≡ Some (insert (entries v order) place (entry_of child hung.item))
  pub rest : (q : ℕ) → q ≢ order → q ≢ hung.list → get w q ≡ get v q
