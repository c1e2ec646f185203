use Rattle.std.proofs.Common.{◌≡◌, ◌++◌}
use Rattle.tree_rows.specs.Forest.{count}
use Rattle.plain_tree.specs.Found.{HasNames}
use Rattle.elem_governing.proofs.Siblings.{names_in}
use Rattle.elem_governing.proofs.children.child_names.Given as goal

abbrev pub invariant-left : goal.invariant-left
invariant-left l = record {
  ids : l.ids.items ++ names_in l.initial.names l.left ≡ names_in l.initial.names l.children;
  has : HasNames l.initial.names l.left;
  same : l.names ≡ l.initial.names;
}

abbrev pub decreases-left : goal.decreases-left
decreases-left l = count l.left
