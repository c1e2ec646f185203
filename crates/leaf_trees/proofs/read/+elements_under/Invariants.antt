use Rattle.leaf_trees.specs.Arena.{at}
use Rattle.leaf_trees.proofs.read.+elements_under.Given as goal

abbrev pub decreases-elements_under : goal.decreases-elements_under
decreases-elements_under l = (at l.nodes.now l.top).height
