-- Which rows are free, and how they hang together.
use Rattle.std.specs.Prelude.{◌≡◌, ◌⊎◌, ℕ, ◌*◌, ◌^◌, ◌<◌, ◌≤◌, List, [], ◌∷◌, length, Bool, true, Option, Some, None}
use Rattle.map_rows.specs.Marks.{IsUnmarked, marked}
use Rattle.map_rows.specs.Piece.{Piece}
use Rattle.map_rows.specs.Places.{IsPlace, number, piece_at, next, block_of}
use Rattle.map_rows.specs.declared.spare.Spare.{Spare}

-- the number is one of these
abbrev pub IsIn : ℕ → List ℕ → Type 0
IsIn r [] = ⊥
IsIn r (x ∷ xs) = (r ≡ x) ⊎ IsIn r xs

-- these rows from the first on, each once, and each tells the next
abbrev pub IsChain : (ℕ → Option ℕ) → (ℕ → Type 0) → Option ℕ → List ℕ → Type 0
IsChain tells IsGood first [] = first ≡ None
IsChain tells IsGood first (r ∷ rs) = (first ≡ Some r) × IsGood r × ¬ IsIn r rs × IsChain tells IsGood (tells r) rs

-- there is such a row, and it is not live
abbrev pub IsFree : List Piece → ℕ → List Bool → ℕ → Type 0
IsFree bs stride marks r = IsPlace bs stride r × IsUnmarked marks r

-- the chain of rows that were given back, and the rows that were never taken
pub record AreSpare (bs : List Piece) (stride : ℕ) (marks : List Bool) (spare : Spare) : Type 0 where
  pub chain : List ℕ
  pub linked : IsChain (next bs stride) (IsFree bs stride marks) spare.free chain
  pub unused : (r : ℕ) → spare.unused.start ≤ r → r < spare.unused.end → IsFree bs stride marks r × ¬ IsIn r chain
  pub least : 1 ≤ spare.next_rows
  pub most : spare.next_rows ≤ 1024
  pub count : length bs * 1024 < 2 ^ 32
  pub past : (r : ℕ) → length bs ≤ block_of r → IsUnmarked marks r

-- blocks were added, all of zeros
pub record Grows (old new : List Piece) : Type 0 where
  pub blocks : length old ≤ length new
  pub pieces : (k : ℕ) → k < length old → piece_at new k ≡ piece_at old k
  pub zeros : (k m : ℕ) → length old ≤ k → number new k m ≡ 0

-- the row was free, and is not among those that are free now
pub record Takes (old new : List Piece) (stride : ℕ) (marks : List Bool) (spare : Spare) (row : ℕ) : Type 0 where
  pub grows : Grows old new
  pub place : IsPlace new stride row
  pub was_free : IsUnmarked marks row
  pub rest : AreSpare new stride (marked marks row true) spare
