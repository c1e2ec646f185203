-- What a block builds.
use Rattle.std.proofs.Common.{◌≡◌, List, true, true≢false, Ok, Err, sym, ap, ◌∙◌}
use Rattle.std.specs.Result.{is_ok}
use Rattle.item_listing.specs.declared.item.Item.{Item}
use Rattle.tree_rows.specs.declared.row.Binding.{Binding}
use Rattle.tree_building.specs.Blocks.{one_element, IsBlock}
use Rattle.tree_building.specs.Building.{built, forest_of}
use Rattle.tree_building.specs.Rules.{block_rules}
use Rattle.tree_building.specs.declared.build.Built.{Built}
use Rattle.tree_building.specs.declared.fault.TreeFault.{TreeFault}
use Rattle.tree_building.proofs.Kept.{built_whole, built_under}
use Rattle.tree_building.proofs.OneElement.{block-built}

pub is_block : (scope : List Binding) (its : List Item) (end : Built) → built block_rules scope its ≡ Ok end → IsBlock scope its end.rows
is_block scope its end e = record {
  whole = built_whole block_rules scope its end e;
  is_block = sym (ap forest_of e);
  under = built_under block_rules scope its end e;
}

-- one element is built
pub no_fault : (scope : List Binding) (its : List Item) (fault : TreeFault) → one_element its ≡ true → built block_rules scope its ≡ Err fault → ⊥
no_fault scope its fault one e = true≢false (sym one ∙ sym (block-built scope its) ∙ ap is_ok e)
