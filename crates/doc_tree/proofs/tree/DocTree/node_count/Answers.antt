use Rattle.std.proofs.Common.{◌∙◌}
use Rattle.doc_tree.proofs.Counting.{counted}
use Rattle.doc_tree.proofs.tree.DocTree.node_count.Goals as goal

pub returns-clause-tree : goal.returns-clause-tree
returns-clause-tree c = rw (← c.self.view_is) (λ t d z. c.self.invariant ∙ counted t c.self.inside.links d z)
