use Rattle.std.proofs.Common.{◌-◌, length}
use Rattle.child_trees.specs.Cells.{AddsSlots}
use Rattle.child_trees.proofs.edits.fill.Given as goal

abbrev pub invariant-more : goal.invariant-more
invariant-more g l = AddsSlots g.M.Summary.unit l.fn.cells l.cells

abbrev pub decreases-more : goal.decreases-more
decreases-more g l = l.slots - length l.cells.maps
