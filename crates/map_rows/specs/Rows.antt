-- What a contract sees of rows, and what is made of them.
use Rattle.std.specs.Prelude.{◌≡◌, ◌≢◌, ℕ, zero, suc, ◌+◌, ◌<◌, ◌≤◌, min, List, [], ◌∷◌, length, map, Option, Some, None, slice_index, slice_index_or}

-- how many cells each row has, the greatest number in a cell, and each live row under its number
pub record RowMap : Type 0 where
  pub width : ℕ
  pub cap : ℕ
  pub rows : List (Option (List ℕ))

-- the row of a number, if that is live
abbrev pub get : RowMap → ℕ → Option (List ℕ)
get v r = slice_index_or v.rows r None

-- the number is of a live row
abbrev pub IsLive : RowMap → ℕ → Type 0
IsLive v r = (xs : List ℕ) × (get v r ≡ Some xs)

-- the row has the width, and its cells are at most the cap
pub record IsRow (v : RowMap) (xs : List ℕ) : Type 0 where
  pub len : length xs ≡ v.width
  pub small : (i : ℕ) → i < v.width → slice_index xs i ≤ v.cap

-- so are all live rows
abbrev pub AreRows : RowMap → Type 0
AreRows v = (r : ℕ) (xs : List ℕ) → get v r ≡ Some xs → IsRow v xs

-- the number now has this row, or none, and each other number has what it had
pub record Updates (old new : RowMap) (r : ℕ) (row : Option (List ℕ)) : Type 0 where
  pub changed : get new r ≡ row
  pub others : (q : ℕ) → q ≢ r → get new q ≡ get old q
  pub width : new.width ≡ old.width
  pub cap : new.cap ≡ old.cap

-- f i and the values after it, n in all
abbrev pub values_from : (ℕ → ℕ) → ℕ → ℕ → List ℕ
values_from f i zero = []
values_from f i (suc n) = f i ∷ values_from f (i + 1) n

-- each place itself
abbrev pub identity : ℕ → List ℕ
identity n = values_from (λ i. i) 0 n

-- the second map after the first
abbrev pub composed : List ℕ → List ℕ → List ℕ
composed first second = map (λ x. slice_index second x) first

-- the sums of the cells, up to the cap
abbrev pub added : ℕ → List ℕ → List ℕ → List ℕ
added cap [] ys = []
added cap (x ∷ xs) [] = []
added cap (x ∷ xs) (y ∷ ys) = min (x + y) cap ∷ added cap xs ys
