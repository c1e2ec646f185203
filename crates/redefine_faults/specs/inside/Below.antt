-- Which elements are below another, found by their numbers.
use Rattle.std.specs.Prelude.{◌≡◌, ℕ, ◌+◌, ◌⊎◌, ◌↔◌, List, [], ◌∷◌, Bool, true, Contains, length, if◌then◌else◌}
use Rattle.schema_shape.specs.declared.forms.Shape.{Shape}
use Rattle.redefine_faults.specs.Redefinitions.{IsBelow}

-- these are the elements below one of them
abbrev pub AreBelow : List Shape → Shape → List Shape → Type 0
AreBelow shapes version found = (s : Shape) → Contains found s ↔ IsBelow shapes version s

-- how many members the elements have whose numbers were not seen
abbrev pub weight : (ℕ → Bool) → List Shape → ℕ
weight seen [] = 0
weight seen (s ∷ shapes) = (if seen s.item then 0 else length s.members) + weight seen shapes

-- the number is that of a member of an element, or of one below it
abbrev pub IsWanted : List Shape → Shape → ℕ → Type 0
IsWanted shapes version item = Contains version.members item ⊎ ((s : Shape) × IsBelow shapes version s × Contains s.members item)

-- the number was seen or is left to do
abbrev pub IsKnown : (ℕ → Bool) → List ℕ → ℕ → Type 0
IsKnown seen left item = Contains left item ⊎ (seen item ≡ true)

-- what was found is below, the elements of what was seen were found, and what is in them was seen or is left to do
pub record IsSpreading (shapes : List Shape) (version : Shape) (seen : ℕ → Bool) (found : List Shape) (left : List ℕ) : Type 0 where
  pub sound : (s : Shape) → Contains found s → IsBelow shapes version s
  pub wanted : (item : ℕ) → Contains left item → IsWanted shapes version item
  pub all : (s : Shape) → Contains shapes s → seen s.item ≡ true → Contains found s
  pub begun : (item : ℕ) → Contains version.members item → IsKnown seen left item
  pub closed : (s : Shape) → Contains found s → (item : ℕ) → Contains s.members item → IsKnown seen left item
