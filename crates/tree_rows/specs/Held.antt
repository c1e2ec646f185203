-- What siblings and an index hold.
use Rattle.std.specs.Prelude.{◌≡◌, ℕ, List}
use Rattle.tree_rows.specs.Rows.{rows_of, siblings}
use Rattle.tree_rows.specs.declared.row.Row.{Row}
use Rattle.tree_rows.specs.Cuts.{top_depth, forest_in}
use Rattle.tree_rows.specs.Sizes.{counts_of}
use Rattle.tree_rows.specs.declared.siblings.Siblings.TheInside as siblings_inside
use Rattle.tree_rows.specs.declared.index.TreeIndex.TheInside as index_inside

-- the rows are those of their forest, and of each it is known how many are below it
pub record AreCut (rows : List Row) (below : List ℕ) : Type 0 where
  pub rows_are : rows ≡ rows_of (top_depth rows) (forest_in rows)
  pub counts_are : below ≡ counts_of (forest_in rows)

abbrev pub IsCut : siblings_inside.Inside → Type 0
IsCut s = AreCut s.rows.now s.below.now

-- the rows are those of a tree
pub record AreWhole (rows : List Row) (below : List ℕ) : Type 0 where
  pub rows_are : rows ≡ rows_of 1 (siblings rows 1)
  pub counts_are : below ≡ counts_of (siblings rows 1)

abbrev pub IsWhole : index_inside.Inside → Type 0
IsWhole i = AreWhole i.rows.now i.below.items
