use Rattle.std.proofs.Common.{◌+◌, ◌*◌}
use Rattle.tree_rows.specs.Forest.{count}
use Rattle.doc_changes.specs.inside.Growing.{one_of}
use Rattle.doc_changes.proofs.Spread.{FilledSoFar}
use Rattle.doc_changes.proofs.spreading.+spread.Given as goal

abbrev pub decreases-put_below : goal.decreases-put_below
decreases-put_below l = 2 * count l.siblings + 1

abbrev pub decreases-fill : goal.decreases-fill
decreases-fill l = 2 * count (one_of l.row.now l.children)

abbrev pub invariant-put_below-left : goal.invariant-put_below-left
invariant-put_below-left l = FilledSoFar l.initial.names l.names l.fn.links l.links l.parent l.fn.siblings l.left

abbrev pub decreases-put_below-left : goal.decreases-put_below-left
decreases-put_below-left l = count l.left
