-- Nodes of maps in one list: a map of so many levels is a tree of halves of the numbers below a power of 2.
use Rattle.std.specs.Prelude.{◌≡◌, ℕ, zero, suc, ◌-◌, ◌^◌, ◌<◌, nat_lt, false, ◌&&◌, ◌||◌, List, ◌++◌, Option, None, Some, ⊤, length, slice_index_or, if◌then◌else◌}
use Rattle.attr_uses.specs.declared.entry.Entry.{Entry}
use Rattle.attr_uses.specs.declared.node.Sum.{Sum}
use Rattle.attr_uses.specs.declared.node.Node.{Node}
use Rattle.attr_uses.specs.declared.node.Node.TheVariants.{Empty, Leaf, Fork}

-- the part with the lower half of the names, and that with the upper half
abbrev pub node_left : Node → ℕ
node_left Empty = 0
node_left (Leaf e) = 0
node_left (Fork left right sum) = left

abbrev pub node_right : Node → ℕ
node_right Empty = 0
node_right (Leaf e) = 0
node_right (Fork left right sum) = right

abbrev pub node_entry : Node → Option Entry
node_entry Empty = None
node_entry (Leaf e) = Some e
node_entry (Fork left right sum) = None

abbrev pub no_sum : Sum
no_sum = record { needed = false; double = false; id = false; two_ids = false }

abbrev pub entry_sum : Entry → Sum
entry_sum e = record { needed = e.needed; double = e.double; id = e.id; two_ids = false }

abbrev pub both_sums : Sum → Sum → Sum
both_sums a b = record {
  needed = a.needed || b.needed;
  double = a.double || b.double;
  id = a.id || b.id;
  two_ids = a.two_ids || b.two_ids || (a.id && b.id);
}

abbrev pub node_sum : Node → Sum
node_sum Empty = no_sum
node_sum (Leaf e) = entry_sum e
node_sum (Fork left right sum) = sum

abbrev pub node_at : List Node → ℕ → Node
node_at ns n = slice_index_or ns n Empty

-- the entry of a number in the map of so many levels below a node
abbrev pub find : List Node → ℕ → ℕ → ℕ → Option Entry
find ns zero n key = node_entry (node_at ns n)
find ns (suc d) n key =
    if nat_lt key (2 ^ d) then find ns d (node_left (node_at ns n)) key else find ns d (node_right (node_at ns n)) (key - 2 ^ d)

abbrev pub IsNoFork : Node → Type 0
IsNoFork Empty = ⊤
IsNoFork (Leaf e) = ⊤
IsNoFork (Fork left right sum) = ⊥

abbrev pub IsNoLeaf : Node → Type 0
IsNoLeaf Empty = ⊤
IsNoLeaf (Leaf e) = ⊥
IsNoLeaf (Fork left right sum) = ⊤

-- leaves stand at the last level alone, and forks above it
abbrev pub IsMap : List Node → ℕ → ℕ → Type 0
IsMap ns zero n = IsNoFork (node_at ns n)
IsMap ns (suc d) n = IsNoLeaf (node_at ns n) × IsMap ns d (node_left (node_at ns n)) × IsMap ns d (node_right (node_at ns n))

-- the sum of a fork is that of both parts
abbrev pub SumsUp : List Node → Node → Type 0
SumsUp ns Empty = ⊤
SumsUp ns (Leaf e) = ⊤
SumsUp ns (Fork left right sum) = sum ≡ both_sums (node_sum (node_at ns left)) (node_sum (node_at ns right))

-- a node whose parts are there
pub record IsNodeIn (ns : List Node) (node : Node) : Type 0 where
  pub left : node_left node < length ns
  pub right : node_right node < length ns
  pub sum : SumsUp ns node

-- nodes of which the first is nothing
pub record AreNodes (ns : List Node) : Type 0 where
  pub some : 0 < length ns
  pub first : node_at ns 0 ≡ Empty
  pub each : (n : ℕ) → n < length ns → IsNodeIn ns (node_at ns n)
  pub few : length ns < 2 ^ 32

-- more nodes behind the old ones
abbrev pub Grows : List Node → List Node → Type 0
Grows old new = (more : List Node) × (new ≡ old ++ more)
