use Rattle.doc_tree.proofs.Counted.{nodes_counted}
use Rattle.doc_tree.proofs.laws.changes_count_nodes.Goals as goal

pub returns : goal.returns
returns c = nodes_counted
