use Rattle.leaf_trees.specs.Arena.{at}
use Rattle.leaf_trees.proofs.edit.+flag_under.Given as goal

abbrev pub decreases-flag_under : goal.decreases-flag_under
decreases-flag_under l = (at l.nodes.now l.top).height
