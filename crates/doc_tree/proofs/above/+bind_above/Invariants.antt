use Rattle.doc_nodes.specs.Nodes.{node, depth_by}
use Rattle.doc_tree.proofs.above.+bind_above.Given as goal

abbrev pub decreases-bind_above : goal.decreases-bind_above
decreases-bind_above l = depth_by (node l.links.now l.node)
