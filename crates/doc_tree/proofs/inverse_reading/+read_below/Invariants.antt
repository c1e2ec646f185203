use Rattle.std.proofs.Common.{◌+◌, ◌-◌, length}
use Rattle.xs_names.specs.Names.{NameTable}
use Rattle.tree_rows.specs.Forest.{Forest}
use Rattle.doc_nodes.specs.Nodes.{node, depth_by, children_by}
use Rattle.doc_changes.specs.Parts.{IsOver}
use Rattle.doc_tree.specs.inside.Reading.{ReadSoFar}
use Rattle.doc_tree.proofs.inverse_reading.+read_below.Given as goal

abbrev pub decreases-read_below : goal.decreases-read_below
decreases-read_below l = 130 - depth_by (node l.links.now l.number)

abbrev pub invariant-children : goal.invariant-children
invariant-children l = (t : NameTable) (below : Forest) → IsOver t l.links l.number below → ReadSoFar t (l.depth + 1) l.initial.rows.items l.rows.items below l.place

abbrev pub decreases-children : goal.decreases-children
decreases-children l = length (children_by (node l.links l.number)) - l.place
