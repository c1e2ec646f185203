use Rattle.leaf_trees.specs.Arena.{at}
use Rattle.leaf_trees.proofs.read.+marked_under.Given as goal

abbrev pub decreases-marked_under : goal.decreases-marked_under
decreases-marked_under l = (at l.nodes.now l.top).height
