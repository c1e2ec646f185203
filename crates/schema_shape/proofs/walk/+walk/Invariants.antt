use Rattle.std.proofs.Common.{◌≡◌, ◌≤◌, ◌+◌, ◌*◌}
use Rattle.tree_rows.specs.Forest.{count}
use Rattle.schema_faults.specs.Constructs.{constructs}
use Rattle.schema_shape.specs.inside.Walks.{with_constructs}
use Rattle.schema_shape.proofs.walk.+walk.Given as goal

abbrev pub decreases-walk : goal.decreases-walk
decreases-walk l = 2 * count l.siblings

abbrev pub decreases-enter : goal.decreases-enter
decreases-enter l = 2 * count l.children + 1

abbrev pub invariant-walk-left : goal.invariant-walk-left
invariant-walk-left l = record {
  fewer : count l.left ≤ count l.fn.siblings;
  found : with_constructs l.found (constructs l.parent l.above l.scope l.left)
      ≡ with_constructs l.initial.found (constructs l.parent l.above l.initial.scope l.fn.siblings);
  scope : l.scope ≡ l.initial.scope;
}

abbrev pub decreases-walk-left : goal.decreases-walk-left
decreases-walk-left l = count l.left
