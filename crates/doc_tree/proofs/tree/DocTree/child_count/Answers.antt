use Rattle.std.proofs.Common.{length, refl, ap, ◌∙◌}
use Rattle.doc_nodes.specs.Nodes.{node}
use Rattle.doc_tree.proofs.Answering.{children_are}
use Rattle.doc_tree.proofs.tree.DocTree.child_count.Goals as goal

pub returns-clause-tree : goal.returns-clause-tree
returns-clause-tree c = rw (← c.self.view_is) (λ t d z.
    let ns = c.self.inside.links in let n = c.args.node in
    c.child_count.ensures.count ∙ ap length (children_are t ns d z n (node ns n) refl))
