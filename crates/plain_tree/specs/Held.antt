-- A tree over the rows that it holds.
use Rattle.tree_rows.specs.Forest.{Document}
use Rattle.tree_rows.specs.Rows.{siblings}
use Rattle.tree_rows.specs.Whole.{IsTree}
use Rattle.tree_building.specs.Shape.{AreSound}
use Rattle.plain_tree.specs.declared.tree.Tree.TheInside.{Inside}

abbrev pub document_of : Inside → Document
document_of t = record { forest = siblings t.rows.items 1; next_free = t.next_free }

-- the rows are those of the tree, and no others, and it is one
pub record IsSound (t : Inside) : Type 0 where
  pub sound : AreSound t.rows.items
  pub tree : IsTree (document_of t)
