use Rattle.leaf_trees.specs.Arena.{at}
use Rattle.leaf_trees.proofs.trees.Trees.+free_under.Given as goal

abbrev pub decreases-free_under : goal.decreases-free_under
decreases-free_under l = (at l.self.now.nodes l.top).height
