use Rattle.std.proofs.Common.{◌≡◌, ◌++◌, drop}
use Rattle.tree_edits.specs.Blocks.{lines_of}
use Rattle.tree_edits.proofs.names.lines_of.Given as goal

abbrev pub invariant-loop-item : goal.invariant-loop-item
invariant-loop-item l = l.lines ++ lines_of (drop l.item-index l.items) ≡ lines_of l.items
