-- Elements by their numbers, as identity constraints see them, and which of them are targets as they were (Structures 3.11.4).
use Rattle.std.specs.Prelude.{◌≡◌, ℕ, List, [], ◌∷◌, Option, None, Some}
use Rattle.xs_components.specs.Tables.{Tables}
use Rattle.identity_constraints.specs.Counting.{Has}
use Rattle.identity_constraints.specs.Seen.{KeyElement, KeyForest, none, element}
use Rattle.identity_constraints.specs.Targets.{constraints_of}

-- what is seen of each element, its parent, and its child elements in order
pub record Kin : Type 0 where
  pub seen : ℕ → KeyElement
  pub parent : ℕ → Option ℕ
  pub children : ℕ → List ℕ

-- siblings by their numbers, with all below them
abbrev pub AreSeen : Kin → List ℕ → KeyForest → Type 0
AreSeen v [] none = Unit {0}
AreSeen v [] (element own below next) = ⊥
AreSeen v (n ∷ ns) none = ⊥
AreSeen v (n ∷ ns) (element own below next) = (own ≡ v.seen n) × (AreSeen v (v.children n) below × AreSeen v ns next)

-- the elements above, from a parent on, the nearest first
abbrev pub AreAbove : Kin → Option ℕ → List KeyElement → Type 0
AreAbove v None [] = Unit {0}
AreAbove v None (e ∷ es) = ⊥
AreAbove v (Some p) [] = ⊥
AreAbove v (Some p) (e ∷ es) = (e ≡ v.seen p) × AreAbove v (v.parent p) es

module _ (t : Tables) where
  -- two elements are the same as scopes and as steps on a way: by number, name and constraints
  pub record IsSameScope (one other : KeyElement) : Type 0 where
    pub number : one.number ≡ other.number
    pub name : one.name ≡ other.name
    pub constraints : constraints_of t one ≡ constraints_of t other

  -- What an edit leaves as it was. An element that it leaves free is itself as it was, and so are its child elements, all of which are free;
  -- and the elements above it are steady. A steady element is the same as a scope and on ways, and so are those above it.
  pub record Leaves (old new : Kin) (free steady : ℕ → Type 0) : Type 0 where
    pub own : (n : ℕ) → free n → new.seen n ≡ old.seen n
    pub children : (n : ℕ) → free n → new.children n ≡ old.children n
    pub below : (n c : ℕ) → free n → Has c (old.children n) → free c
    pub parent : (n : ℕ) → free n → new.parent n ≡ old.parent n
    pub above : (n p : ℕ) → free n → old.parent n ≡ Some p → steady p
    pub same : (n : ℕ) → steady n → IsSameScope (new.seen n) (old.seen n)
    pub steady_parent : (n : ℕ) → steady n → new.parent n ≡ old.parent n
    pub steady_above : (n p : ℕ) → steady n → old.parent n ≡ Some p → steady p

-- by both, what is below an element and the elements above it
pub record AreAround (old new : Kin) (n : ℕ) (below new_below : KeyForest) (above new_above : List KeyElement) : Type 0 where
  pub below_are : AreSeen old (old.children n) below
  pub new_below_are : AreSeen new (new.children n) new_below
  pub above_are : AreAbove old (old.parent n) above
  pub new_above_are : AreAbove new (new.parent n) new_above
