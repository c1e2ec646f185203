use Rattle.std.proofs.Common.{reverse}
use Rattle.xs_positions.specs.Walk.{tree_in}
use Rattle.xs_positions.proofs.Tasks.{Stands, work}
use Rattle.xs_positions.proofs.walk.find_sets.Given as goal

-- what the tasks lead to is the expression at the root
abbrev pub invariant-loop-task : goal.invariant-loop-task
invariant-loop-task l = Stands l.nodes (tree_in l.nodes l.fn.root) (reverse l.walk.tasks.items) l.walk.found.items l.walk.count

abbrev pub decreases-loop-task : goal.decreases-loop-task
decreases-loop-task l = work l.nodes l.walk.tasks.items
