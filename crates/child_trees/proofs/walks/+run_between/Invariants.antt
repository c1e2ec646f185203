use Rattle.leaf_trees.specs.Arena.{at}
use Rattle.child_trees.proofs.walks.+run_between.Given as goal

abbrev pub decreases-run_between : goal.decreases-run_between
decreases-run_between g l = (at l.nodes.now l.top).height
