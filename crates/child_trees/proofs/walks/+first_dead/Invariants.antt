use Rattle.leaf_trees.specs.Arena.{at}
use Rattle.child_trees.proofs.walks.+first_dead.Given as goal

abbrev pub decreases-first_dead : goal.decreases-first_dead
decreases-first_dead g l = (at l.nodes.now l.top).height
