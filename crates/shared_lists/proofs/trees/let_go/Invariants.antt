use Rattle.std.proofs.Common.{◌+◌, ◌*◌}
use Rattle.shared_lists.specs.Weight.{weight, weight_of}
use Rattle.shared_lists.proofs.trees.let_go.Given as goal

abbrev pub decreases-down : goal.decreases-down
decreases-down g l = 2 * weight l.branch.value + weight_of l.waiting
