use Rattle.leaf_trees.specs.Arena.{at}
use Rattle.child_trees.proofs.sums.+sum_along.Given as goal

abbrev pub decreases-sum_along : goal.decreases-sum_along
decreases-sum_along g l = (at l.nodes.now l.top).height
