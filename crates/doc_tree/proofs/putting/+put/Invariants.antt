use Rattle.std.proofs.Common.{◌+◌, ◌*◌, ◌≤◌, List, length}
use Rattle.xs_names.specs.Names.{NameTable}
use Rattle.tree_rows.specs.Forest.{Forest}
use Rattle.doc_tree.specs.declared.part.PartRow.{PartRow}
use Rattle.doc_tree.specs.inside.Putting.{Holds, PutSoFar}
use Rattle.doc_tree.proofs.putting.+put.Given as goal

abbrev pub decreases-put_all : goal.decreases-put_all
decreases-put_all l = 2 * length l.rows.now + 1

abbrev pub decreases-put_one : goal.decreases-put_one
decreases-put_one l = 2 * length l.rows.now

abbrev pub invariant-put_all-left : goal.invariant-put_all-left
invariant-put_all-left l =
    (length l.left ≤ length l.fn.rows)
    × ((t : NameTable) (f : Forest) (end : List PartRow) → Holds t l.initial.links l.parent l.depth l.fn.rows f end → PutSoFar t l.initial.links l.links l.parent l.depth l.left f end l.done)

abbrev pub decreases-put_all-left : goal.decreases-put_all-left
decreases-put_all-left l = length l.left
