use Rattle.leaf_trees.specs.Arena.{at}
use Rattle.child_trees.proofs.order.+push_items.Given as goal

abbrev pub decreases-push_items : goal.decreases-push_items
decreases-push_items l = (at l.nodes.now l.top).height
