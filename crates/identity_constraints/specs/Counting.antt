-- Which key-sequences are in the tables of elements, by counts that are kept for each element and go by its children alone
-- (Structures 3.11.5). What is counted is of any type: a key-sequence with the key that it is for.
use Rattle.std.specs.Prelude.{◌≡◌, ◌≢◌, ◌⊎◌, ℕ, ◌+◌, ◌&&◌, ◌||◌, Bool, false, true, nat_lt, nat_eq, if◌then◌else◌, List, [], ◌∷◌, Option, None, Some}

abbrev pub weight : Bool → ℕ
weight b = if b then 1 else 0

-- an own one, or exactly one child's
abbrev pub is_seen : ℕ → ℕ → Bool
is_seen own bearers = nat_lt 0 own || nat_eq bearers 1

-- ---- trees by number

-- siblings, each with what is below it
pub data Numbers : Type 0 where
  none : Numbers
  node : (number : ℕ) (below next : Numbers) → Numbers

abbrev pub firsts : Numbers → List ℕ
firsts none = []
firsts (node number below next) = number ∷ firsts next

-- the parent of each number, and its children
pub record Links : Type 0 where
  pub parent : ℕ → Option ℕ
  pub children : ℕ → List ℕ

abbrev pub Has : ℕ → List ℕ → Type 0
Has x [] = ⊥
Has x (c ∷ cs) = (c ≡ x) ⊎ Has x cs

abbrev pub Lacks : ℕ → List ℕ → Type 0
Lacks x [] = Unit {0}
Lacks x (c ∷ cs) = (c ≢ x) × Lacks x cs

abbrev pub Distinct : List ℕ → Type 0
Distinct [] = Unit {0}
Distinct (c ∷ cs) = Lacks c cs × Distinct cs

-- parents and children are the same, and no child is there twice
pub record IsLinked (t : Links) : Type 0 where
  pub down : (p c : ℕ) → Has c (t.children p) → t.parent c ≡ Some p
  pub up : (p c : ℕ) → t.parent c ≡ Some p → Has c (t.children p)
  pub apart : (p : ℕ) → Distinct (t.children p)

-- these are the children of a forest's nodes
abbrev pub StandFor : Links → Numbers → Type 0
StandFor t none = Unit {0}
StandFor t (node number below next) = (t.children number ≡ firsts below) × StandFor t below × StandFor t next

-- how many of these have it
abbrev pub bearers : (ℕ → Bool) → List ℕ → ℕ
bearers p [] = 0
bearers p (c ∷ cs) = weight (p c) + bearers p cs

module _ {Y : Type 0} (own : ℕ → Y → ℕ) where
  -- by one recursion: how many of the siblings have it in their tables, by how often it is an own one of each element
  abbrev pub bearing : Y → Numbers → ℕ
  bearing y none = 0
  bearing y (node number below next) = weight (is_seen (own number y) (bearing y below)) + bearing y next

  abbrev pub is_visible : Y → ℕ → Numbers → Bool
  is_visible y number below = is_seen (own number y) (bearing y below)

-- by the counts that are kept: how often each is an own one of an element, and how many children are said to have it
module _ {Y : Type 0} (own said : ℕ → Y → ℕ) where
  abbrev pub seen : Y → ℕ → Bool
  seen y n = is_seen (own n y) (said n y)

-- an element of which a child has begun or ceased to have it in its table, which the element does not count yet
pub record Change (Y : Type 0) : Type 0 where
  pub at : ℕ
  pub what : Y
  pub grows : Bool

module _ {Y : Type 0} (eq : Y → Y → Bool) where
  -- 1 where it is this one, at the element above, and the test holds
  abbrev pub told : Option ℕ → Y → Bool → ℕ → Y → ℕ
  told None x b m y = 0
  told (Some p) x b m y = if nat_eq p m && eq x y then weight b else 0

  abbrev pub rises : Option (Change Y) → ℕ → Y → ℕ
  rises None m y = 0
  rises (Some w) m y = told (Some w.at) w.what w.grows m y

  abbrev pub falls : Option (Change Y) → ℕ → Y → ℕ
  falls None m y = 0
  falls (Some w) m y = told (Some w.at) w.what (if w.grows then false else true) m y

  -- each element counts the children that have it, but for one change that waits
  abbrev pub IsPending : Links → (own said : ℕ → Y → ℕ) → Option (Change Y) → Type 0
  IsPending t own said waits = (m : ℕ) (y : Y) → said m y + rises waits m y ≡ bearers (seen own said y) (t.children m) + falls waits m y

  -- each element counts the children that have it
  abbrev pub IsSettled : Links → (own said : ℕ → Y → ℕ) → Type 0
  IsSettled t own said = (m : ℕ) (y : Y) → said m y ≡ bearers (seen own said y) (t.children m)

  -- a count of an element has changed, whose parent still counts by what was seen there
  abbrev pub IsTouched : Links → (own said : ℕ → Y → ℕ) → ℕ → Y → Bool → Type 0
  IsTouched t own said n x was =
      (m : ℕ) (y : Y) → said m y + told (t.parent n) x (seen own said x n) m y ≡ bearers (seen own said y) (t.children m) + told (t.parent n) x was m y
