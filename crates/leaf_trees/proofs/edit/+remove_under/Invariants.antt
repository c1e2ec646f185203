use Rattle.leaf_trees.specs.Arena.{at}
use Rattle.leaf_trees.proofs.edit.+remove_under.Given as goal

abbrev pub decreases-remove_under : goal.decreases-remove_under
decreases-remove_under l = (at l.nodes.now l.top).height
