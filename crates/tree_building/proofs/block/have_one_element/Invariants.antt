use Rattle.std.proofs.Common.{◌≡◌, [], false, drop}
use Rattle.tree_building.specs.Blocks.{one_from}
use Rattle.tree_building.specs.Tags.{outcome}
use Rattle.tree_building.proofs.block.have_one_element.Given as goal

abbrev pub invariant-loop-item : goal.invariant-loop-item
invariant-loop-item l = outcome l.tags (drop l.item-index l.items) ≡ one_from [] false false l.items
