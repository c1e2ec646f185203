-- The first place of a name among places that have a name or none (Structures 2.5).
use Rattle.std.specs.Prelude.{◌≡◌, ℕ, suc, ◌==◌, List, [], ◌∷◌, Option, None, Some, slice_index_or, if◌then◌else◌, refl}
use Rattle.std.specs.Option.{option_or}

-- the place, where its name is this one
abbrev pub if_named : Option ℕ → ℕ → ℕ → Option ℕ
if_named None place name = None
if_named (Some own) place name = if own == name then Some place else None

-- the first of these places, counted from here on, that has the name
abbrev pub first_from : List (Option ℕ) → ℕ → ℕ → Option ℕ
first_from [] place name = None
first_from (own ∷ names) place name = option_or (if_named own place name) (first_from names (suc place) name)

abbrev pub first_place : List (Option ℕ) → ℕ → Option ℕ
first_place names name = first_from names 0 name

-- what is true of the places by the numbers of names that a `Symbols` keeps
pub record AreKept (names firsts : List (Option ℕ)) : Type 0 where
  pub exact : (name : ℕ) → slice_index_or firsts name None ≡ first_place names name

-- for example
pub example-first : first_place (None ∷ Some 7 ∷ Some 5 ∷ Some 7 ∷ []) 7 ≡ Some 1
example-first = refl
