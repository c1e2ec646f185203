use Rattle.std.proofs.Common.{◌≡◌, [], false, length}
use Rattle.tree_edits.specs.Blocks.{judged, tags_in}
use Rattle.tree_edits.specs.Sizes.{nodes_in, deepest_in, all_nodes, all_deepest}
use Rattle.tree_edits.specs.Walks.{outcome}
use Rattle.tree_edits.proofs.names.judge_block.Given as goal

abbrev pub invariant-items : goal.invariant-items
invariant-items l = record {
  names : outcome l.walk l.left ≡ judged (tags_in l.scope [] l.items);
  nodes : all_nodes l.walk.size l.left ≡ nodes_in 0 false l.items;
  depth : all_deepest l.walk.size l.left ≡ deepest_in 0 l.items;
}

abbrev pub decreases-items : goal.decreases-items
decreases-items l = length l.left
