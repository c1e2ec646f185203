use Rattle.leaf_trees.specs.Arena.{at}
use Rattle.leaf_trees.proofs.read.+item_under.Given as goal

abbrev pub decreases-item_under : goal.decreases-item_under
decreases-item_under l = (at l.nodes.now l.top).height
