use Rattle.leaf_trees.specs.Arena.{at}
use Rattle.leaf_trees.proofs.edit.+insert_under.Given as goal

abbrev pub decreases-insert_under : goal.decreases-insert_under
decreases-insert_under l = (at l.nodes.now l.top).height
