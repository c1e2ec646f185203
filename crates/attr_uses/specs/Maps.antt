-- Maps from numbers of names to entries.
use Rattle.std.specs.Prelude.{◌≡◌, ℕ, ◌+◌, ◌-◌, ◌^◌, ◌<◌, ◌≤◌, Bool, true, false, List, [], ◌∷◌, ◌++◌, Option, None, Some, length, IsTrue, MatchOption}
use Rattle.std.specs.Option.{IsSomeAnd}
use Rattle.attr_uses.specs.declared.entry.Entry.{Entry}
use Rattle.attr_uses.specs.declared.entry.NeededUse.{NeededUse}
use Rattle.attr_uses.specs.declared.node.Node.{Node}
use Rattle.attr_uses.specs.Nodes.{find, IsMap}

-- how many levels the maps have, and the nodes of all of them
pub record MapNodes : Type 0 where
  pub depth : ℕ
  pub nodes : List Node

-- below the node there is the map of these entries, for the names whose numbers are below the power of 2
pub record IsMapOf (maps : MapNodes) (top : ℕ) (entries : ℕ → Option Entry) : Type 0 where
  pub there : top < length maps.nodes
  pub shape : IsMap maps.nodes maps.depth top
  pub finds : (name : ℕ) → name < 2 ^ maps.depth → find maps.nodes maps.depth top name ≡ entries name

-- all maps are as they were
pub record KeepsMaps (old new : MapNodes) : Type 0 where
  pub depth : new.depth ≡ old.depth
  pub maps : (top : ℕ) (entries : ℕ → Option Entry) → IsMapOf old top entries → IsMapOf new top entries

-- a test of an entry that is there
abbrev pub entry_is : (Entry → Bool) → Option Entry → Bool
entry_is p None = false
entry_is p (Some e) = p e

-- some name has an entry that passes the test
abbrev pub SomeIs : ℕ → (Entry → Bool) → (ℕ → Option Entry) → Type 0
SomeIs depth p entries = (name : ℕ) × (name < 2 ^ depth) × IsTrue (entry_is p (entries name))

-- two names have entries that pass the test
abbrev pub TwoAre : ℕ → (Entry → Bool) → (ℕ → Option Entry) → Type 0
TwoAre depth p entries = (one other : ℕ) × (one < other) × (other < 2 ^ depth) × IsTrue (entry_is p (entries one)) × IsTrue (entry_is p (entries other))

abbrev pub is_needed : Option Entry → Bool
is_needed = entry_is (λ e. e.needed)

-- none is needed from a number on, below another
abbrev pub NoneNeeded : (ℕ → Option Entry) → ℕ → ℕ → Type 0
NoneNeeded entries from bound = (name : ℕ) → from ≤ name → name < bound → is_needed (entries name) ≡ false

-- the first needed name from a number on, below another, and the first use of it
pub record IsFirstNeeded (entries : ℕ → Option Entry) (from bound : ℕ) (one : NeededUse) : Type 0 where
  pub behind : from ≤ one.name
  pub within : one.name < bound
  pub needed : IsSomeAnd (entries one.name) (λ entry. (entry.needed ≡ true) × (entry.first ≡ one.at))
  pub none : NoneNeeded entries from one.name

-- all needed names from a number on, below another, the least first, and the first use of each
abbrev pub AreNeeded : (ℕ → Option Entry) → ℕ → ℕ → List NeededUse → Type 0
AreNeeded entries from bound [] = NoneNeeded entries from bound
AreNeeded entries from bound (one ∷ more) = IsFirstNeeded entries from bound one × AreNeeded entries (one.name + 1) bound more

-- Those of a part that has the names from a number on, so many levels, stand behind what there was.
abbrev pub ArePut : (ℕ → Option Entry) → ℕ → ℕ → List NeededUse → List NeededUse → Type 0
ArePut entries levels from old new =
    (found : List NeededUse) × (new ≡ old ++ found) × AreNeeded (λ name. entries (name - from)) from (from + 2 ^ levels) found

-- two maps have the same for the names from a number on, below another
abbrev pub AreAlike : (ℕ → Option Entry) → (ℕ → Option Entry) → ℕ → ℕ → Type 0
AreAlike one other from bound = (name : ℕ) → from ≤ name → name < bound → one name ≡ other name

pub record IsUnlikeNext (depth : ℕ) (one other : ℕ → Option Entry) (from name : ℕ) : Type 0 where
  pub behind : from ≤ name
  pub within : name < 2 ^ depth
  pub alike : AreAlike one other from name

-- a name from a number on, such that two maps have the same for each name before it; or they have the same for all names from there on
abbrev pub IsNextUnlike : ℕ → (ℕ → Option Entry) → (ℕ → Option Entry) → ℕ → Option ℕ → Type 0
IsNextUnlike depth one other from next = MatchOption next (AreAlike one other from (2 ^ depth)) (IsUnlikeNext depth one other from)
