use Rattle.std.proofs.Common.{◌≡◌, ◌++◌, drop, replicate, Some}
use Rattle.map_rows.proofs.block.fill.Given as goal

abbrev pub invariant-loop-index : goal.invariant-loop-index
invariant-loop-index l = (l.cells.at ≡ l.fn.cells.at) × (l.cells.slots ≡ replicate l.index (Some 0) ++ drop l.index l.fn.cells.slots)
