use Rattle.std.proofs.Common.{◌≡◌, ◌++◌}
use Rattle.tree_rows.specs.Forest.{count}
use Rattle.schema_shape.specs.Shapes.{member_numbers}
use Rattle.schema_shape.proofs.shaped.member_numbers.Given as goal

abbrev pub invariant-left : goal.invariant-left
invariant-left l = l.numbers ++ member_numbers l.left ≡ member_numbers l.fn.siblings

abbrev pub decreases-left : goal.decreases-left
decreases-left l = count l.left
