-- Items that are numbered in the order of coming: a list without repeats, in which the number of an item is its place.
use Rattle.std.specs.Prelude.{◌≡◌, ℕ, Bool, ◌&&◌, ◌==◌, List, [], ◌∷◌, ◌++◌, Option, Some, if◌then◌else◌, slice_get, nat_eq, refl}
use Rattle.std.specs.List.{list_any, position_from}

module _ {X : Type 0} where
  -- the number of the item x, by the equality `same`
  abbrev pub number_of : (X → X → Bool) → List X → X → Option ℕ
  number_of same xs x = position_from (same x) 0 xs

  -- the list with x in it, which comes last where it was not there
  abbrev pub with_item : (X → X → Bool) → List X → X → List X
  with_item same xs x = if list_any (same x) xs then xs else xs ++ x ∷ []

  -- no item stands at two places
  abbrev pub HasNoRepeats : List X → Type 0
  HasNoRepeats xs = (i j : ℕ) (x : X) → slice_get xs i ≡ Some x → slice_get xs j ≡ Some x → i ≡ j

  -- the new list begins with the old one
  abbrev pub Begins : List X → List X → Type 0
  Begins old new = (more : List X) × (new ≡ old ++ more)

-- whether two pairs of numbers are the same
abbrev pub same_pair : ℕ × ℕ → ℕ × ℕ → Bool
same_pair a b = a.0 == b.0 && a.1 == b.1

-- for example
pub example-number_of : number_of nat_eq (5 ∷ 7 ∷ []) 7 ≡ Some 1
example-number_of = refl

pub example-with_item : with_item nat_eq (5 ∷ 7 ∷ []) 5 ≡ 5 ∷ 7 ∷ []
example-with_item = refl
