use Rattle.std.proofs.Common.{◌≡◌, ◌++◌}
use Rattle.tree_rows.specs.Forest.{count}
use Rattle.schema_faults.specs.Children.{child_tags}
use Rattle.schema_faults.proofs.children.child_tags.Given as goal

abbrev pub invariant-left : goal.invariant-left
invariant-left l = l.tags.items ++ child_tags l.left ≡ child_tags l.fn.siblings

abbrev pub decreases-left : goal.decreases-left
decreases-left l = count l.left
