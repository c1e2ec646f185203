-- The nodes in a slab, each found by its number.
use Rattle.std.specs.Prelude.{◌≡◌, ◌≢◌, ℕ, ◌-◌, List, length, map, Option, Some, None, slice_index_or}
use Rattle.slab.specs.Slab.{Slab, get, slab_len}
use Rattle.doc_nodes.specs.declared.slots.Slot.{Slot}
use Rattle.doc_nodes.specs.declared.slots.Owner.{Owner}

-- the node of each number, and how many more there is room for
pub record Held : Type 0 where
  pub slots : List (Option Slot)
  pub room : ℕ

abbrev pub slot : List (Option Slot) → ℕ → Option Slot
slot ss n = slice_index_or ss n None

-- what a node is to its children
abbrev pub owner_of : Slot → Owner
owner_of s = record { list = s.list; depth = s.depth; count = s.count }

-- the number now has this, and each other number what it had
pub record Writes (old new : List (Option Slot)) (n : ℕ) (to : Option Slot) : Type 0 where
  pub size : length new ≡ length old
  pub changed : slot new n ≡ to
  pub others : (m : ℕ) → m ≢ n → slot new m ≡ slot old m

abbrev pub key_at : List (Option ℕ) → ℕ → Option ℕ
key_at keys n = slice_index_or keys n None

abbrev pub slot_by : Slab Slot → Option ℕ → Option Slot
slot_by slab None = None
slot_by slab (Some key) = get slab key

abbrev pub held_of : List (Option ℕ) → Slab Slot → Held
held_of keys slab = record { slots = map (slot_by slab) keys; room = slab.capacity - slab_len slab }

-- the key is that of the node of this number
abbrev pub IsKeyOf : Slab Slot → ℕ → ℕ → Type 0
IsKeyOf slab key n = (s : Slot) × (get slab key ≡ Some s) × (s.number ≡ n)

-- each key is that of its number's node
abbrev pub AreKept : List (Option ℕ) → Slab Slot → Type 0
AreKept keys slab = (n key : ℕ) → key_at keys n ≡ Some key → IsKeyOf slab key n
