use Rattle.leaf_trees.specs.Arena.{at}
use Rattle.child_trees.proofs.sums.+write_leaves.Given as goal

abbrev pub decreases-write_leaves : goal.decreases-write_leaves
decreases-write_leaves g l = (at l.nodes.now l.top).height
