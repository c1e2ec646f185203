use Rattle.std.proofs.Common.{◌-◌, length}
use Rattle.xs_names.specs.Names.{NameTable}
use Rattle.tree_rows.specs.Forest.{Forest}
use Rattle.doc_nodes.specs.Nodes.{node, children_by, depth_by}
use Rattle.doc_changes.specs.Parts.{IsOver}
use Rattle.doc_changes.proofs.Clearing.{ClearsSoFar}
use Rattle.doc_changes.proofs.parts.+clear.Given as goal

abbrev pub decreases-clear : goal.decreases-clear
decreases-clear l = 130 - depth_by (node l.links.now l.number)

abbrev pub invariant-children : goal.invariant-children
invariant-children l = (t : NameTable) (whole : Forest) → IsOver t l.initial.links l.number whole → ClearsSoFar l.initial.links l.links l.number whole l.gone

abbrev pub decreases-children : goal.decreases-children
decreases-children l = length (children_by (node l.links l.number))
