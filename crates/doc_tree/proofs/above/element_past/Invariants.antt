use Rattle.std.proofs.Common.{◌≡◌}
use Rattle.xs_names.specs.Names.{NameTable}
use Rattle.tree_rows.specs.Forest.{Document}
use Rattle.doc_nodes.specs.Nodes.{node, depth_by}
use Rattle.doc_changes.specs.Stands.{StandsFor}
use Rattle.doc_tree.specs.Following.{past_of}
use Rattle.doc_tree.proofs.above.element_past.Given as goal

abbrev pub invariant-up : goal.invariant-up
invariant-up l = (t : NameTable) (d : Document) → StandsFor t l.links d → past_of l.below d.forest ≡ past_of l.fn.node d.forest

abbrev pub decreases-up : goal.decreases-up
decreases-up l = depth_by (node l.links l.below)
