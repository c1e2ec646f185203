-- What a contract sees of many lists.
use Rattle.std.specs.Prelude.{◌≡◌, ◌≢◌, ℕ, ◌+◌, ◌-◌, ◌*◌, ◌<◌, ◌≤◌, Bool, true, false, List, [], ◌∷◌, length, map, take, sum_by, Option, Some, None, slice_index_or, slice_get, slice_index}
use Rattle.child_trees.specs.declared.leaf.Leaf.{Leaf}

-- a leaf in a list: its number, whether it is an element, whether it is marked, and its map
pub record Entry (Map : Type 0) : Type 0 where
  pub item : ℕ
  pub element : Bool
  pub marked : Bool
  pub act : Map

-- the summary's shape, and each live list under its number
pub record Lists (Shape Map : Type 0) : Type 0 where
  pub shape : Shape
  pub lists : List (Option (List (Entry Map)))

module _ {Shape Map : Type 0} where
  -- the list of a number, if that is live
  abbrev pub get : Lists Shape Map → ℕ → Option (List (Entry Map))
  get v q = slice_index_or v.lists q None

  -- the list of that number is live
  abbrev pub IsLive : Lists Shape Map → ℕ → Type 0
  IsLive v q = (xs : List (Entry Map)) × (get v q ≡ Some xs)

  -- the place is within the list, or at its end
  abbrev pub IsUpTo : Lists Shape Map → ℕ → ℕ → Type 0
  IsUpTo v q place = (xs : List (Entry Map)) → get v q ≡ Some xs → place ≤ length xs

  -- the number now has this list, or none, and each other number has what it had
  pub record Updates (old new : Lists Shape Map) (q : ℕ) (xs : Option (List (Entry Map))) : Type 0 where
    pub changed : get new q ≡ xs
    pub others : (p : ℕ) → p ≢ q → get new p ≡ get old p
    pub shape : new.shape ≡ old.shape

  -- the item lies at this place of this list, which has these leaves
  pub record IsAt (v : Lists Shape Map) (item q p : ℕ) (xs : List (Entry Map)) : Type 0 where
    pub list : get v q ≡ Some xs
    pub within : p < length xs
    pub item_is : slice_index (map (λ e. e.item) xs) p ≡ item

  -- the item lies at one place of one list
  pub record LiesOnce (v : Lists Shape Map) (item : ℕ) : Type 0 where
    pub list : (q p r k : ℕ) (xs ys : List (Entry Map)) → IsAt v item q p xs → IsAt v item r k ys → q ≡ r
    pub place : (q p r k : ℕ) (xs ys : List (Entry Map)) → IsAt v item q p xs → IsAt v item r k ys → p ≡ k

  -- the item lies in some list
  abbrev pub HasItem : Lists Shape Map → ℕ → Type 0
  HasItem v item = (q : ℕ) × (p : ℕ) × (xs : List (Entry Map)) × IsAt v item q p xs

-- the entry is that of the item, in some list
pub record IsEntryOf {Shape Map : Type 0} (v : Lists Shape Map) (item : ℕ) (e : Entry Map) : Type 0 where
  pub list : ℕ
  pub place : ℕ
  pub entries : List (Entry Map)
  pub at : IsAt v item list place entries
  pub is : slice_get entries place ≡ Some e

-- the slots that a list takes: one for each leaf, and one for each fork between two
abbrev pub list_slots : {Map : Type 0} → Option (List (Entry Map)) → ℕ
list_slots None = 0
list_slots (Some xs) = 2 * length xs - 1

-- and those that all lists take
abbrev pub slots_used : {Shape Map : Type 0} → Lists Shape Map → ℕ
slots_used v = sum_by list_slots v.lists

-- the map of a letter, or the unit where there is none
abbrev pub map_by : {Letter Map : Type 0} → Map → (Letter → Map) → Option Letter → Map
map_by unit leaf None = unit
map_by unit leaf (Some letter) = leaf letter

-- the entry of a leaf under a number
abbrev pub entry : {Letter Map : Type 0} → Map → (Letter → Map) → ℕ → Leaf Letter → Entry Map
entry unit leaf item l = record { item = item; element = l.element; marked = l.marked; act = map_by unit leaf l.letter }

-- the entries are those of these leaves, in order
abbrev pub AreEntries : {Letter Map : Type 0} → Map → (Letter → Map) → List (Leaf Letter) → List (Entry Map) → Type 0
AreEntries unit leaf [] [] = Unit {0}
AreEntries unit leaf [] (e ∷ es) = ⊥
AreEntries unit leaf (l ∷ ls) [] = ⊥
AreEntries unit leaf (l ∷ ls) (e ∷ es) = (e ≡ entry unit leaf e.item l) × AreEntries unit leaf ls es

-- the items of the entries
abbrev pub items : {Map : Type 0} → List (Entry Map) → List ℕ
items xs = map (λ e. e.item) xs

-- no item comes twice, and none lies in a list
pub record AreNew {Shape Map : Type 0} (v : Lists Shape Map) (xs : List (Entry Map)) : Type 0 where
  pub absent : (p : ℕ) → p < length xs → ¬ HasItem v (slice_index (items xs) p)
  pub once : (p k : ℕ) → p < length xs → k < length xs → slice_index (items xs) p ≡ slice_index (items xs) k → p ≡ k

-- the state after the maps of all these leaves, in order
abbrev pub acts_along : {Map State : Type 0} → (Map → State → State) → State → List (Entry Map) → State
acts_along acts s [] = s
acts_along acts s (e ∷ es) = acts_along acts (acts e.act s) es

-- the place is the first one through which the leaves lead to a dead state
pub record IsFirstDead {Map State : Type 0} (acts : Map → State → State) (is_dead : State → Bool) (s : State) (xs : List (Entry Map)) (p : ℕ) : Type 0 where
  pub within : p < length xs
  pub dead : is_dead (acts_along acts s (take (p + 1) xs)) ≡ true
  pub before : (k : ℕ) → k < p → is_dead (acts_along acts s (take (k + 1) xs)) ≡ false

-- no place leads to a dead state
abbrev pub NoneIsDead : {Map State : Type 0} → (Map → State → State) → (State → Bool) → State → List (Entry Map) → Type 0
NoneIsDead acts is_dead s xs = (k : ℕ) → k < length xs → is_dead (acts_along acts s (take (k + 1) xs)) ≡ false
