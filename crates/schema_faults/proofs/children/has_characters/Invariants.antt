use Rattle.std.proofs.Common.{◌≡◌}
use Rattle.tree_rows.specs.Forest.{count}
use Rattle.schema_faults.specs.Children.{has_characters}
use Rattle.schema_faults.proofs.children.has_characters.Given as goal

abbrev pub invariant-left : goal.invariant-left
invariant-left l = has_characters l.left ≡ has_characters l.fn.siblings

abbrev pub decreases-left : goal.decreases-left
decreases-left l = count l.left
