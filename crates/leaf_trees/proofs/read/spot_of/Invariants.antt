use Rattle.std.proofs.Common.{ℕ, ◌-◌, ◌^◌}
use Rattle.leaf_trees.specs.Tree.{Tree, IsItemAt}
use Rattle.leaf_trees.specs.Arena.{at, IsTreeOf}
use Rattle.leaf_trees.proofs.Climb.{Climbed}
use Rattle.leaf_trees.proofs.read.spot_of.Given as goal

abbrev pub invariant-loop-i : goal.invariant-loop-i
invariant-loop-i l = (list top goal : ℕ) (t : Tree) → IsTreeOf l.nodes list top t → IsItemAt t goal l.item → Climbed t l.i l.place goal

abbrev pub decreases-loop-i : goal.decreases-loop-i
decreases-loop-i l = 2 ^ 32 - (at l.nodes l.i).height
