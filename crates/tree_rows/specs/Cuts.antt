-- Rows that are cut out of those of a tree.
use Rattle.std.specs.Prelude.{ℕ, List, [], ◌∷◌}
use Rattle.tree_rows.specs.Forest.{Forest}
use Rattle.tree_rows.specs.Rows.{siblings}
use Rattle.tree_rows.specs.declared.row.Row.{Row}

-- the depth of the first row
abbrev pub top_depth : List Row → ℕ
top_depth [] = 1
top_depth (row ∷ rows) = row.depth

-- the forest of these rows, the first of which is a top one
abbrev pub forest_in : List Row → Forest
forest_in rows = siblings rows (top_depth rows)
