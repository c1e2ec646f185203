use Rattle.std.proofs.Common.{◌≡◌, ◌≤◌, List, length, reverse}
use Rattle.tree_rows.specs.declared.row.Binding.{Binding}
use Rattle.tree_edits.specs.Places.{scope_above}
use Rattle.tree_edits.proofs.scope.last_above.Given as goal

abbrev pub invariant-left : goal.invariant-left
invariant-left l = record {
  shorter : length l.left ≤ length l.rows;
  same : (scope : List Binding) → scope_above l.depth scope (reverse l.rows) ≡ scope_above l.depth scope (reverse l.left);
}

abbrev pub decreases-left : goal.decreases-left
decreases-left l = length l.left
