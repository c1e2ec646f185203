use Rattle.std.proofs.Common.{◌+◌, ◌*◌}
use Rattle.tree_rows.specs.Forest.{count}
use Rattle.doc_changes.specs.inside.Growing.{one_of}
use Rattle.doc_changes.proofs.Growth.{PlantedSoFar}
use Rattle.doc_changes.proofs.planting.+put.Given as goal

abbrev pub decreases-put_all : goal.decreases-put_all
decreases-put_all l = 2 * count l.siblings + 1

abbrev pub decreases-put_one : goal.decreases-put_one
decreases-put_one l = 2 * count (one_of l.row.now l.children)

abbrev pub invariant-put_all-left : goal.invariant-put_all-left
invariant-put_all-left l = PlantedSoFar l.initial.names l.names l.initial.links l.links l.parent l.fn.number l.fn.siblings l.numbers_left l.left

abbrev pub decreases-put_all-left : goal.decreases-put_all-left
decreases-put_all-left l = count l.left
