use Rattle.std.proofs.Common.{◌≡◌, ◌+◌, ◌-◌, ◌≤◌, ◌++◌, length, take, drop}
use Rattle.tree_building.specs.Shape.{AreUnder}
use Rattle.tree_edits.specs.EditRows.{raised}
use Rattle.tree_edits.proofs.shifts.raise_slice.Given as goal

abbrev pub invariant-rows : goal.invariant-rows
invariant-rows l = record {
  within : l.at ≤ length l.rows;
  so_far : take l.at l.rows ++ raised (l.free + l.at) l.levels (drop l.at l.rows) ≡ raised l.free l.levels l.fn.rows;
  under : AreUnder 129 (drop l.at l.rows);
}

abbrev pub decreases-rows : goal.decreases-rows
decreases-rows l = length l.rows - l.at
