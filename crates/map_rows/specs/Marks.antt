-- A mark for each number.
use Rattle.std.specs.Prelude.{◌≡◌, ℕ, zero, suc, List, [], ◌∷◌, Bool, true, false, slice_index_or}

-- the marks with this one at the number; what lies between is not marked
abbrev pub marked : List Bool → ℕ → Bool → List Bool
marked [] zero b = b ∷ []
marked [] (suc r) b = false ∷ marked [] r b
marked (x ∷ xs) zero b = b ∷ xs
marked (x ∷ xs) (suc r) b = x ∷ marked xs r b

-- the number is marked, or is not
abbrev pub IsMarked : List Bool → ℕ → Type 0
IsMarked marks r = slice_index_or marks r false ≡ true

abbrev pub IsUnmarked : List Bool → ℕ → Type 0
IsUnmarked marks r = slice_index_or marks r false ≡ false
