use Rattle.doc_nodes.specs.Nodes.{node, depth_by}
use Rattle.doc_tree.proofs.above.+scope_upwards.Given as goal

abbrev pub decreases-scope_upwards : goal.decreases-scope_upwards
decreases-scope_upwards l = depth_by (node l.links.now l.node)
