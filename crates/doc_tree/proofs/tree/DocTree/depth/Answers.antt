use Rattle.std.proofs.Common.{refl, ◌∙◌}
use Rattle.doc_nodes.specs.Nodes.{node}
use Rattle.doc_tree.proofs.Answering.{depth_is}
use Rattle.doc_tree.proofs.tree.DocTree.depth.Goals as goal

pub returns-clause-tree : goal.returns-clause-tree
returns-clause-tree c = rw (← c.self.view_is) (λ t d z.
    let ns = c.self.inside.links in let n = c.args.node in
    c.depth.ensures.depth ∙ depth_is t ns d z n (node ns n) refl)
