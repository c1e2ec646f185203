use Rattle.std.proofs.Common.{◌≡◌, ◌+◌, ◌≤◌, drop}
use Rattle.tree_edits.specs.EditRows.{rows_width}
use Rattle.tree_edits.proofs.places.child_count.Given as goal

abbrev pub invariant-loop-row : goal.invariant-loop-row
invariant-loop-row l = record {
  counted : l.count + rows_width l.depth (drop l.row-index l.rows) ≡ rows_width l.depth l.rows;
  few : l.count ≤ l.row-index;
}
