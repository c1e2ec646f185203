-- Lines whose characters stand one behind the other.
use Rattle.std.specs.Prelude.{ℕ, ◌≤◌, List, slice_range, IsCharBoundary}
use Rattle.tag_names.specs.declared.lines.AttributeLine.{AttributeLine}
use Rattle.tag_names.specs.declared.packed.Spot.{Spot}

-- the line whose name and value stand there
abbrev pub line_at : List ℕ → Spot → AttributeLine
line_at text spot = record { name = slice_range text spot.start spot.middle; value = slice_range text spot.middle spot.end }

-- the text can be cut there
pub record Fits (text : List ℕ) (spot : Spot) : Type 0 where
  pub name : spot.start ≤ spot.middle
  pub value : spot.middle ≤ spot.end
  pub start : IsCharBoundary text spot.start
  pub middle : IsCharBoundary text spot.middle
  pub end : IsCharBoundary text spot.end
