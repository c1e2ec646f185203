-- Changes of a node, on the rows of its tree.
use Rattle.std.specs.Prelude.{◌≡◌, ℕ, ◌+◌, ◌≤◌, List, ◌++◌, length, take, drop}
use Rattle.tree_rows.specs.Forest.{Forest}
use Rattle.tree_rows.specs.Rows.{rows_of, siblings}
use Rattle.tree_rows.specs.declared.row.Row.{Row}
use Rattle.tree_building.specs.Shape.{AreSound}
use Rattle.tree_edits.specs.Edits.{replaced}
use Rattle.plain_tree.specs.Putting.{with_last, depth_of}
use Rattle.plain_tree.specs.declared.putting.End.{End}

-- the rows are sound, and those of the tree with the node changed
pub record Changes (old new : List Row) (key : ℕ) (change : Forest → Forest) : Type 0 where
  pub sound : AreSound new
  pub gives : siblings new 1 ≡ replaced key change (siblings old 1)

-- the rows below an element end before this place, and its children have this depth
pub record IsEnd (rows : List Row) (key : ℕ) (end : End) : Type 0 where
  pub within : end.place ≤ length rows
  pub deep : end.depth ≡ depth_of key (siblings rows 1) + 1
  pub becomes : (new : Forest) → rows_of 1 (replaced key (with_last new) (siblings rows 1)) ≡ take end.place rows ++ (rows_of end.depth new ++ drop end.place rows)
