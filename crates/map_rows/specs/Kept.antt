-- How the fields of `Rows` stand for rows.
use Rattle.std.specs.Prelude.{ℕ, ◌+◌, ◌<◌, ◌≤◌, max, if◌then◌else◌, List, [], ◌∷◌, Bool, Option, Some, None}
use Rattle.map_rows.specs.Free.{AreSpare}
use Rattle.map_rows.specs.Marks.{IsMarked}
use Rattle.map_rows.specs.Piece.{Piece}
use Rattle.map_rows.specs.Places.{IsPlace, cell}
use Rattle.map_rows.specs.Rows.{RowMap, values_from}
use Rattle.map_rows.specs.declared.spare.Spare.{Spare}

-- the cells of a row
abbrev pub row_of : List Piece → ℕ → ℕ → List ℕ
row_of bs width r = values_from (cell bs (max width 2) r) 0 width

-- the marked rows, from this number on
abbrev pub rows_from : List Piece → ℕ → ℕ → List Bool → List (Option (List ℕ))
rows_from bs width r [] = []
rows_from bs width r (m ∷ ms) = (if m then Some (row_of bs width r) else None) ∷ rows_from bs width (r + 1) ms

abbrev pub row_map : ℕ → ℕ → List Piece → List Bool → RowMap
row_map width cap bs marks = record { width = width; cap = cap; rows = rows_from bs width 0 marks }

-- each live row lies in the blocks, and no cell is above the cap but the first two of a free row
pub record AreKept (width cap : ℕ) (bs : List Piece) (marks : List Bool) (spare : Spare) : Type 0 where
  pub wide : 1 ≤ width
  pub spared : AreSpare bs (max width 2) marks spare
  pub placed : (r : ℕ) → IsMarked marks r → IsPlace bs (max width 2) r
  pub small : (r i : ℕ) → IsMarked marks r → i < width → cell bs (max width 2) r i ≤ cap
  pub rest : (r i : ℕ) → 2 ≤ i → i < width → cell bs (max width 2) r i ≤ cap
