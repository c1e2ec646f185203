use Rattle.tree_edits.proofs.Trees.{block_tree}
use Rattle.tree_edits.proofs.block_tree_laws.blocks_are_trees.Goals as goal

pub returns : goal.returns
returns c = block_tree
