use Rattle.std.proofs.Common.{◌∙◌}
use Rattle.doc_tree.proofs.tree.DocTree.next_free.Goals as goal

pub returns-clause-tree : goal.returns-clause-tree
returns-clause-tree c = rw (← c.self.view_is) (λ t d z. c.next_free.ensures.next ∙ z.next)
