use Rattle.std.proofs.Common.{◌≡◌, ◌++◌, ◌≤◌, List, length, take, drop}
use Rattle.tree_edits.specs.EditRows.{put_rows}
use Rattle.tree_rows.specs.declared.row.Row.{Row}
use Rattle.tree_edits.proofs.places.child_place.Given as goal

abbrev pub invariant-loop-place : goal.invariant-loop-place
invariant-loop-place l = record {
  within : l.place ≤ length l.rows;
  same : (new : List Row) → put_rows l.index l.depth new l.rows ≡ take l.place l.rows ++ put_rows l.left l.depth new (drop l.place l.rows);
}
