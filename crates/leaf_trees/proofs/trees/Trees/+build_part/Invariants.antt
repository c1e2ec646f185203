use Rattle.std.proofs.Common.{length}
use Rattle.leaf_trees.proofs.trees.Trees.+build_part.Given as goal

abbrev pub decreases-build_part : goal.decreases-build_part
decreases-build_part l = length l.leaves.now
