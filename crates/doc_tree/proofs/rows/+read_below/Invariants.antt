use Rattle.std.proofs.Common.{◌-◌}
use Rattle.tree_rows.specs.Forest.{Forest}
use Rattle.doc_nodes.specs.Nodes.{node, depth_by}
use Rattle.doc_tree.specs.inside.Under.{IsUnder}
use Rattle.doc_tree.proofs.Below.{ReadSoFar}
use Rattle.doc_tree.proofs.rows.+read_below.Given as goal

abbrev pub decreases-read_below : goal.decreases-read_below
decreases-read_below l = 130 - depth_by (node l.links.now l.number)

abbrev pub invariant-loop-child : goal.invariant-loop-child
invariant-loop-child l = (below : Forest) → IsUnder l.names l.links l.number below → ReadSoFar l.names l.links l.depth l.initial.rows.items l.rows.items l.child-index below
