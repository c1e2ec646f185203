-- What is built of a document is the rows of a tree.
use Rattle.std.specs.Prelude.{◌≡◌, List, Result, Ok}
use Rattle.item_listing.specs.declared.item.Item.{Item}
use Rattle.tree_rows.specs.Forest.{Document}
use Rattle.tree_rows.specs.Rows.{siblings}
use Rattle.tree_rows.specs.Whole.{IsTree}
use Rattle.tree_building.specs.Building.{◌>>=◌, after_all, ended_all}
use Rattle.tree_building.specs.Shape.{AreSound}
use Rattle.tree_building.specs.declared.building.Building.{Building}
use Rattle.tree_building.specs.declared.build.Built.{Built}
use Rattle.tree_building.specs.declared.fault.TreeFault.{TreeFault}

-- the document of the nodes that were built
abbrev pub tree_of : Built → Document
tree_of end = record { forest = siblings end.rows 1; next_free = end.next }

-- the rows are those of a tree
pub record IsWell (end : Built) : Type 0 where
  pub sound : AreSound end.rows
  pub tree : IsTree (tree_of end)

-- whatever items come, a tree is built
abbrev pub WillBeSound : Result Building TreeFault → Type 0
WillBeSound state = (more : List Item) (end : Built) → (after_all state more >>= ended_all) ≡ Ok end → IsWell end
